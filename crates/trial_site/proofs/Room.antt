-- The data of a trial have room in a graph.
use Rattle.std.proofs.Common.{◌≡◌, ℕ, ◌+◌, ◌-◌, ◌*◌, ◌<◌, ◌≤◌, List, [], ◌∷◌, length, sym, ap, ◌∙◌, subst}
use Rattle.std.proofs.Common.{arith, Result, Err}
use Rattle.std.specs.Prelude.{⊤}
use Rattle.std.specs.declared.cmp.Ordering.{Ordering}
use Rattle.std.specs.declared.cmp.Ordering.TheVariants.{Less, Equal, Greater}
use Rattle.std.specs.Ordering.{match_ordering}
use Rattle.std.specs.BTreeSet.{insert_key}
use Rattle.sd_value.specs.declared.Datum.TheVariants.{Node}
use Rattle.sd_value.specs.declared.Value.{Value}
use Rattle.sd_value.specs.declared.Value.TheVariants.{Data, Page}
use Rattle.sd_value.specs.Order.{bytes_cmp}
use Rattle.graph_spec.specs.DataGraph.{DataGraph, Name}
use Rattle.graph_spec.specs.Orders.{edge_cmp, member_cmp}
use Rattle.graph_spec.specs.Statement.{Statement, a_node, a_member, an_edge, with_end, graph_with}
use Rattle.sd_graph.specs.declared.GraphRefusal.{GraphRefusal}
use Rattle.sd_graph.specs.declared.GraphRefusal.TheVariants.{TooManyNodes, TooManyEdges}
use Rattle.sd_graph.specs.declared.Limits.{Limits}
use Rattle.sd_graph.specs.Statement.{Building, building_with, Adds}
use Rattle.trial_site.specs.Room.{HasRoom}

-- one element more at most
inserted : {X : Type 0} (R : X → X → Ordering) (k : X) (xs : List X) → length (insert_key R xs k) ≤ length xs + 1
inserted R k [] = omega arith
inserted {X} R k (x ∷ xs) = by (inserted R k xs) (R k x)
  where
    by : length (insert_key R xs k) ≤ length xs + 1 → (r : Ordering)
        → length (match_ordering r (k ∷ x ∷ xs) (x ∷ xs) (x ∷ insert_key R xs k)) ≤ length (x ∷ xs) + 1
    by more Less = omega arith
    by more Equal = omega arith
    by more Greater = omega (arith, more)

with_end_more : (v : Value) (names : List Name) → length (with_end v names) ≤ length names + 1
with_end_more (Data (Node n)) names = inserted bytes_cmp n names
with_end_more (Data d) names = omega arith
with_end_more (Page p) names = omega arith

more_nodes : (s : Statement) (G : DataGraph) → length (graph_with s G).nodes ≤ length G.nodes + 2
more_nodes (a_node n) G = omega (arith, inserted bytes_cmp n G.nodes)
more_nodes (a_member c n) G = omega (arith, inserted bytes_cmp n G.nodes)
more_nodes (an_edge n l v) G =
    omega (arith, inserted bytes_cmp n G.nodes, with_end_more v (insert_key bytes_cmp G.nodes n))

more_edges : (s : Statement) (G : DataGraph)
    → length (graph_with s G).edges + length (graph_with s G).members ≤ (length G.edges + length G.members) + 1
more_edges (a_node n) G = omega arith
more_edges (a_member c n) G = omega (arith, inserted member_cmp (record { collection = c; node = n }) G.members)
more_edges (an_edge n l v) G = omega (arith, inserted edge_cmp (record { from = n; label = l; to = v }) G.edges)

-- a statement takes the room of one
pub room_after : (s : Statement) (b c : Building) → c ≡ building_with s b → (more : ℕ) → HasRoom (more + 1) b
    → HasRoom more c
room_after s b c is more room =
    subst (HasRoom more) (sym is) (record {
      limits = room.limits;
      nodes = omega (arith, more_nodes s b.graph, room.nodes);
      edges = omega (arith, more_edges s b.graph, room.edges);
    })

pub room_less : (few many : ℕ) (b : Building) → few ≤ many → HasRoom many b → HasRoom few b
room_less few many b less room = record {
  limits = room.limits;
  nodes = omega (arith, less, room.nodes);
  edges = omega (arith, less, room.edges);
}

module _ (s : Statement) (b c : Building) (r : Result ⊤ GraphRefusal) (e : GraphRefusal)
    (room : HasRoom 1 b) (is : r ≡ Err e) (added : Adds s b c r) where
  pub room_nodes : e ≡ TooManyNodes → ⊥
  room_nodes many =
      let too_many : Adds s b c (Err TooManyNodes) = subst (Adds s b c) (is ∙ ap Err many) added in
      let limit : b.limits.nodes ≡ 1048576 = ap (λ (l : Limits). l.nodes) room.limits in
      omega (arith, too_many.1, limit, more_nodes s b.graph, room.nodes)

  pub room_edges : e ≡ TooManyEdges → ⊥
  room_edges many =
      let too_many : Adds s b c (Err TooManyEdges) = subst (Adds s b c) (is ∙ ap Err many) added in
      let limit : b.limits.edges ≡ 4194304 = ap (λ (l : Limits). l.edges) room.limits in
      omega (arith, too_many.2, limit, more_edges s b.graph, room.edges)

-- a step takes the room of one statement
abbrev Takes : Building → Building → Type 0
Takes b c = (more : ℕ) → HasRoom (more + 1) b → HasRoom more c

pub room_after_five : (a b c d e f : Building) → Takes a b → Takes b c → Takes c d → Takes d e → Takes e f
    → (more : ℕ) → HasRoom (more + 5) a → HasRoom more f
room_after_five a b c d e f p q r s t more room =
    let five : more + 5 ≡ ((((more + 1) + 1) + 1) + 1) + 1 = omega arith in
    let first = p ((((more + 1) + 1) + 1) + 1) (subst (λ n. HasRoom n a) five room) in
    t more (s (more + 1) (r ((more + 1) + 1) (q (((more + 1) + 1) + 1) first)))

-- the room after one more entry of a trial
pub room_after_entry : (made entries : ℕ) (b c : Building) → made < entries → entries ≤ 20000
    → HasRoom (100000 - 5 * made) b
    → ((more : ℕ) → HasRoom (more + 5) b → HasRoom more c) → HasRoom (100000 - 5 * (made + 1)) c
room_after_entry made entries b c low most room step =
    let five : 100000 - 5 * made ≡ (100000 - 5 * (made + 1)) + 5 = omega (arith, low, most) in
    step (100000 - 5 * (made + 1)) (subst (λ n. HasRoom n b) five room)
