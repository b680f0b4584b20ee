-- The text of a graph spells the objects of its nodes.
use Rattle.std.proofs.Common.{◌≡◌, refl, sym, subst, ℕ, ◌≤◌, ◌-◌, List, [], ◌∷◌, ◌++◌, length, arith}
use Rattle.std.specs.List.{flat_map}
use Rattle.std.proofs.lemmas.List.{append-nil}
use Rattle.sd_lex.specs.Lexing.{Lexes, here, behind_mark, mark_len}
use Rattle.graph_spec.specs.declared.Step.{Step}
use Rattle.graph_spec.specs.DataGraph.{DataGraph}
use Rattle.ddl_text.specs.declared.tree.Statement.{Statement}
use Rattle.ddl_text.specs.DataText as grammar
use Rattle.sd_ddl.specs.Reads.{Spells}
use Rattle.sd_ddl.specs.Written.{node_text, graph_text, collections_of, steps_out}
use Rattle.ddl_laws.proofs.Pieces.{Prints, Matches, Holds, prints_many}
use Rattle.ddl_laws.proofs.Printed.{IsWritable, IsObjectOf, prints_object}

abbrev pub IsNodeOf : DataGraph → List ℕ → Statement → Type 0
IsNodeOf G n st = IsObjectOf n (collections_of G.members n) (steps_out G.edges n) st

abbrev pub AllWritable : DataGraph → List ℕ → Type 0
AllWritable G n = Holds (λ (s : Step). IsWritable s.end) (steps_out G.edges n)

prints_file : (G : DataGraph) → Holds (AllWritable G) G.nodes → Prints grammar.file (Matches (IsNodeOf G) G.nodes) 0 (graph_text G)
prints_file G w =
    prints_many grammar.statement (IsNodeOf G) (node_text G) (AllWritable G) (λ n at h. prints_object n (collections_of G.members n) (steps_out G.edges n) at h) G.nodes 0 w

no_mark : (G : DataGraph) (ns : List (List ℕ)) → behind_mark (flat_map (node_text G) ns) ≡ flat_map (node_text G) ns
no_mark G [] = refl
no_mark G (n ∷ ns) = refl

pub text_spells : (G : DataGraph) (limit : ℕ) → Holds (AllWritable G) G.nodes → length (graph_text G) ≤ limit
    → (statements : List Statement) × Spells limit (graph_text G) statements × Matches (IsNodeOf G) G.nodes statements
text_spells G limit w fits =
    let p = prints_file G w in
    let text = graph_text G in
    let lexed : Lexes (length text) [] 0 (text ++ []) (p.tokens ++ []) = p.splits (length text) [] (length text) [] [] (omega arith) (here refl refl refl) in
    let whole : Lexes (length text) [] 0 text p.tokens = subst (λ ts. Lexes (length text) [] 0 text ts) (append-nil p.tokens) (subst (λ bytes. Lexes (length text) [] 0 bytes (p.tokens ++ [])) (append-nil text) lexed) in
    let zero_of : 0 ≡ length text - length text = omega arith in
    let behind : Lexes (length text) [] (mark_len text) (behind_mark text) p.tokens =
    subst (λ bytes. Lexes (length text) [] (length text - length bytes) bytes p.tokens) (sym (no_mark G G.nodes)) (subst (λ n. Lexes (length text) [] n text p.tokens) zero_of whole) in
    (p.value, (p.tokens, (fits, (length text, behind)), p.spelled), p.is)
