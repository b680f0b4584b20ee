-- A text without directives states what its objects say.
use Rattle.std.proofs.Common.{◌≡◌, refl, sym, ap, subst, ◌∙◌, ℕ, List, [], ◌∷◌, ◌++◌, map}
use Rattle.std.specs.List.{flat_map}
use Rattle.std.proofs.lemmas.Grind.{flat_map-append}
use Rattle.sd_graph.specs.Statement as graph
use Rattle.sd_graph.specs.Stating.{Step, says, fails}
use Rattle.graph_spec.specs.declared.Step.{Step as Arrow}
use Rattle.graph_spec.specs.DataGraph.{DataGraph}
use Rattle.token_reader.specs.declared.reading.Word.{Word}
use Rattle.ddl_text.specs.declared.tree.Field.{Field}
use Rattle.ddl_text.specs.declared.tree.Statement.{Statement}
use Rattle.sd_ddl.specs.Kinds.{Name}
use Rattle.sd_ddl.specs.Parts.{member_part, edge_part, parts_of, parts}
use Rattle.sd_ddl.specs.Plain.{no_kinds}
use Rattle.sd_ddl.specs.Steps.{said, edge_steps, steps}
use Rattle.sd_ddl.specs.Written.{collections_of, steps_out}
use Rattle.sd_ddl.proofs.Kindless.{NoGives, no_gives-append, steps_kindless}
use Rattle.ddl_laws.proofs.Pieces.{Matches}
use Rattle.ddl_laws.proofs.Printed.{IsNamed, IsField, IsObjectOf}
use Rattle.ddl_laws.proofs.Written.{IsNodeOf}

-- the steps say these statements, wherever they stand
abbrev pub Says : List (Step ℕ ℕ) → List graph.Statement → Type 0
Says [] [] = Unit {0}
Says [] (t ∷ ts) = ⊥
Says (says p s ∷ ss) [] = ⊥
Says (says p s ∷ ss) (t ∷ ts) = (s ≡ t) × Says ss ts
Says (fails f ∷ ss) ts = ⊥

Says-append : (ss rs : List (Step ℕ ℕ)) (ts us : List graph.Statement) → Says ss ts → Says rs us → Says (ss ++ rs) (ts ++ us)
Says-append [] rs [] us h k = k
Says-append [] rs (t ∷ ts) us h k = absurd h
Says-append (says p s ∷ ss) rs [] us h k = absurd h
Says-append (says p s ∷ ss) rs (t ∷ ts) us h k = (h.0, Says-append ss rs ts us h.1 k)
Says-append (fails f ∷ ss) rs ts us h k = absurd h

abbrev pub member_statement : Name → Name → graph.Statement
member_statement n c = graph.a_member c n

abbrev pub edge_statement : Name → Arrow → graph.Statement
edge_statement n s = graph.an_edge n s.label s.end

abbrev pub node_statements : Name → List Name → List Arrow → List graph.Statement
node_statements n cs ss = graph.a_node n ∷ (map (member_statement n) cs ++ map (edge_statement n) ss)

abbrev pub statements_at : DataGraph → Name → List graph.Statement
statements_at G n = node_statements n (collections_of G.members n) (steps_out G.edges n)

abbrev pub graph_statements : DataGraph → List graph.Statement
graph_statements G = flat_map (statements_at G) G.nodes

members_say : (o n : Name) → o ≡ n → (cs : List Name) (ws : List Word) → Matches IsNamed cs ws
    → Says (flat_map (said no_kinds) (map (member_part o) ws)) (map (member_statement n) cs) × NoGives (map (member_part o) ws)
members_say o n same [] [] h = (tt, tt)
members_say o n same [] (w ∷ ws) h = absurd h
members_say o n same (c ∷ cs) [] h = absurd h
members_say o n same (c ∷ cs) (w ∷ ws) h =
    let rest = members_say o n same cs ws h.1 in
    (((λ i. graph.a_member (h.0 i) (same i)), rest.0), rest.1)

edges_say : (o n : Name) → o ≡ n → (ss : List Arrow) (fs : List Field) → Matches IsField ss fs
    → Says (flat_map (said no_kinds) (map (edge_part o) fs)) (map (edge_statement n) ss) × NoGives (map (edge_part o) fs)
edges_say o n same [] [] h = (tt, tt)
edges_say o n same [] (f ∷ fs) h = absurd h
edges_say o n same (s ∷ ss) [] h = absurd h
edges_say o n same (s ∷ ss) (f ∷ fs) h =
    let rest = edges_say o n same ss fs h.1 in (
      subst (λ v. Says (edge_steps f.value.place o f.name.text v ++ flat_map (said no_kinds) (map (edge_part o) fs)) (edge_statement n s ∷ map (edge_statement n) ss)) (sym h.0.1)
          ((λ i. graph.an_edge (same i) (h.0.0 i) s.end), rest.0),
      rest.1,
    )

object_says : (n : Name) (cs : List Name) (ss : List Arrow) (st : Statement) → IsObjectOf n cs ss st
    → Says (flat_map (said no_kinds) (parts_of st)) (node_statements n cs ss) × NoGives (parts_of st)
object_says n cs ss st (w, ws, fs, is, same, named, has) =
    let members = members_say w.text n same cs ws named in
    let edges = edges_say w.text n same ss fs has in
    let all : Says (flat_map (said no_kinds) (map (member_part w.text) ws ++ map (edge_part w.text) fs)) (map (member_statement n) cs ++ map (edge_statement n) ss) =
    subst (λ r. Says r (map (member_statement n) cs ++ map (edge_statement n) ss)) (sym (flat_map-append (said no_kinds) (map (member_part w.text) ws) (map (edge_part w.text) fs)))
    (Says-append (flat_map (said no_kinds) (map (member_part w.text) ws)) (flat_map (said no_kinds) (map (edge_part w.text) fs)) (map (member_statement n) cs) (map (edge_statement n) ss) members.0 edges.0) in
    subst (λ x. Says (flat_map (said no_kinds) (parts_of x)) (node_statements n cs ss) × NoGives (parts_of x)) (sym is)
    ((ap graph.a_node same, all), no_gives-append (map (member_part w.text) ws) (map (edge_part w.text) fs) members.1 edges.1)

objects_say : (G : DataGraph) (ns : List Name) (sts : List Statement) → Matches (IsNodeOf G) ns sts
    → Says (flat_map (said no_kinds) (parts sts)) (flat_map (statements_at G) ns) × NoGives (parts sts)
objects_say G [] [] h = (tt, tt)
objects_say G [] (st ∷ sts) h = absurd h
objects_say G (n ∷ ns) [] h = absurd h
objects_say G (n ∷ ns) (st ∷ sts) h =
    let first = object_says n (collections_of G.members n) (steps_out G.edges n) st h.0 in
    let rest = objects_say G ns sts h.1 in (
      subst (λ r. Says r (statements_at G n ++ flat_map (statements_at G) ns)) (sym (flat_map-append (said no_kinds) (parts_of st) (parts sts)))
          (Says-append (flat_map (said no_kinds) (parts_of st)) (flat_map (said no_kinds) (parts sts)) (statements_at G n) (flat_map (statements_at G) ns) first.0 rest.0),
      no_gives-append (parts_of st) (parts sts) first.1 rest.1,
    )

pub steps_say : (G : DataGraph) (sts : List Statement) → Matches (IsNodeOf G) G.nodes sts → Says (steps (parts sts)) (graph_statements G)
steps_say G sts h =
    let found = objects_say G G.nodes sts h in
    subst (λ r. Says r (graph_statements G)) (sym (steps_kindless (parts sts) found.1)) found.0
