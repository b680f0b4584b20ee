-- Candidates that are added to those that were.
use Rattle.std.proofs.Common.{◌≡◌, ℕ, ◌<◌, List, [], ◌∷◌, ◌++◌, refl, sym, ap, ◌∙◌, subst, length, get_or, append_assoc, append-nil}
use Rattle.std.specs.Prelude.{Bool, true, false, cond, map, Option, Some, None, option_map, MatchOption, OnOk, Result, Ok, Err}
use Rattle.std.specs.Borrow.{Bor}
use Rattle.std.specs.List.{flat_map}
use Rattle.std.proofs.lemmas.List.{map-append}
use Rattle.std.proofs.lemmas.List.Elements.{All-push, All-get_or}
use Rattle.sd_value.specs.Names.{Label}
use Rattle.query_spec.specs.Mentions.{chain_of, variables_of}
use Rattle.struql_ast.specs.Reading.{target_of, label_of}
use Rattle.struql_ast.specs.declared.Link.{Link}
use Rattle.struql_ast.specs.declared.Target.{Target}
use Rattle.query_spec.specs.Query.{Chain}
use Rattle.query_links.specs.declared.written.Mention.{Mention}
use Rattle.query_links.specs.Mentions.{HaveChains}
use Rattle.constraint_spec.specs.Placed.{PlacedLink}
use Rattle.graph_spec.specs.DataGraph.{DataGraph}
use Rattle.graph_spec.specs.Statement.{Statement}
use Rattle.counterexample_spec.specs.Values.{Copy, first_copy, second_copy, LabelSet as PlainSet}
use Rattle.counterexample_spec.specs.Frozen.{graph_of, stated}
use Rattle.counterexample_spec.specs.Candidates.{set_by, either_way, arguments_of}
use Rattle.refute_site.specs.declared.freezing.LabelSet.{LabelSet}
use Rattle.refute_site.specs.Patterns.{set_of}
use Rattle.refute_site.specs.declared.candidate.Candidate.{Candidate}
use Rattle.refute_site.specs.Candidates.{candidate_graph, HasItsVariables, HaveTheirVariables}
use Rattle.query_links.specs.Links.{placed}
use Rattle.refute_site.specs.Links.{frozen_link, frozen_links}

-- two candidates more
pub two_graphs : (old mid new : List Candidate) (a b : Candidate) → mid ≡ old ++ a ∷ [] → new ≡ mid ++ b ∷ [] → map candidate_graph new ≡ map candidate_graph old ++ candidate_graph a ∷ candidate_graph b ∷ []
two_graphs old mid new a b e f =
    ap (map candidate_graph) (f ∙ ap (λ l. l ++ b ∷ []) e ∙ append_assoc old (a ∷ []) (b ∷ [])) ∙ map-append candidate_graph old (a ∷ b ∷ [])

pub two_variables : (old mid new : List Candidate) (a b : Candidate) → mid ≡ old ++ a ∷ [] → new ≡ mid ++ b ∷ [] → HaveTheirVariables old → HasItsVariables a → HasItsVariables b → HaveTheirVariables new
two_variables old mid new a b e f had ha hb =
    subst HaveTheirVariables (sym f) (All-push HasItsVariables mid b (subst HaveTheirVariables (sym e) (All-push HasItsVariables old a had ha)) hb)

-- the variables of a mention's chain
pub mention_variables : (version : ℕ) (mentions : List Mention) (i : ℕ) (m : Mention) → i < length mentions → m ≡ get_or mentions i m → HaveChains version mentions → m.chain.now.variables ≡ variables_of m.chain.now.conditions
mention_variables version mentions i m lt is h =
    let P : Mention → Type 0 = λ n. n.chain.now ≡ chain_of version n.chain.now.conditions in
    let e : P m = subst P (sym is) (All-get_or P mentions i m lt h) in
    ap (λ (ch : Chain). ch.variables) e

if_kept : {X Y : Type 0} (f : X → List Y) (k : X) (b : Bool) → b ≡ true → f k ≡ flat_map f (cond b (k ∷ []) [])
if_kept f k true t = sym (append-nil (f k))
if_kept f k false t = (let no : ⊥ = cc in absurd no)

if_left : {X Y : Type 0} (f : X → List Y) (k : X) (b : Bool) → b ≡ false → [] ≡ flat_map f (cond b (k ∷ []) [])
if_left f k true t = (let no : ⊥ = cc in absurd no)
if_left f k false t = refl

-- a link that passes, and one that doesn't
pub one_kept : (may : PlacedLink → Bool) (twice : Bool) (l : Label) (k : PlacedLink) (b : Bool) → b ≡ may k → b ≡ true → frozen_link twice l k ≡ frozen_links may twice l (k ∷ [])
one_kept may twice l k b e t = if_kept (frozen_link twice l) k (may k) (sym e ∙ t)

pub none_kept : (may : PlacedLink → Bool) (twice : Bool) (l : Label) (k : PlacedLink) (b : Bool) (old : List DataGraph) → b ≡ may k → b ≡ false → old ≡ old ++ frozen_links may twice l (k ∷ [])
none_kept may twice l k b old e t = sym (append-nil old) ∙ ap (λ z. old ++ z) (if_left (frozen_link twice l) k (may k) (sym e ∙ t))

pub on_ok : {T E : Type 0} (r : Result T E) (P Q : Type 0) → (P → Q) → OnOk r P → OnOk r Q
on_ok (Ok x) P Q f h = f h
on_ok (Err e) P Q f h = tt

module _ (chain : Bor Chain) (k : Link) (l : Label) (set : Option LabelSet) (is_set : option_map set_of set ≡ set_by l (label_of k.label)) where
  -- what is stated of the chain in one copy
  abbrev In : Copy → Option PlainSet → Bool → List Statement
  In copy o repeats = stated (record { conditions = chain.now.conditions; set = o; copy = copy; repeats = repeats })

  abbrev Ways : Option (Bor Target) → List DataGraph
  Ways source = either_way (λ repeats. candidate_graph (record { chain = chain; set = set; source = source; repeats = repeats }))

  once : Ways None ≡ frozen_link false l (placed chain.now.conditions k)
  once = ap (λ (o : Option PlainSet). either_way (λ repeats. graph_of (In first_copy o repeats))) is_set

  two : (source : Bor Target) → source.now ≡ k.source → Ways (Some source) ≡ frozen_link true l (placed chain.now.conditions k)
  two source same =
      ap (λ (o : Option PlainSet). either_way (λ repeats. graph_of (In first_copy o repeats ++ In (second_copy (arguments_of (target_of source.now))) o repeats))) is_set
      ∙ ap (λ (t : Target). either_way (λ repeats. graph_of (In first_copy (set_by l (label_of k.label)) repeats ++ In (second_copy (arguments_of (target_of t))) (set_by l (label_of k.label)) repeats))) same

  -- a link's candidates, of one link or of two
  pub link_ways : (twice : Bool) (source : Option (Bor Target)) → MatchOption source (twice ≡ false) (λ s. (twice ≡ true) × (s.now ≡ k.source)) → Ways source ≡ frozen_link twice l (placed chain.now.conditions k)
  link_ways twice None h = once ∙ ap (λ (b : Bool). frozen_link b l (placed chain.now.conditions k)) (sym h)
  link_ways twice (Some source) h = two source h.1 ∙ ap (λ (b : Bool). frozen_link b l (placed chain.now.conditions k)) (sym h.0)
