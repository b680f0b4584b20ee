-- What the three indexes answer together is what the graph that they make answers.
use Rattle.std.specs.Prelude.{◌⊎◌, ◌↔◌, ◌≤◌, ◌+◌, ◌-◌, ℕ, Bool, IsTrue, List, length}
use Rattle.std.proofs.Common.{inl, inr}
use Rattle.sd_value.specs.declared.Value.{Value}
use Rattle.sd_value.specs.Order.{value_cmp}
use Rattle.sd_value.specs.OrderLaws.{value_cmp-total, value_cmp-exact}
use Rattle.sd_value.specs.Ascending.{ListsExactly}
use Rattle.graph_spec.specs.declared.Edge.{Edge}
use Rattle.graph_spec.specs.declared.Step.{Step}
use Rattle.graph_spec.specs.DataGraph.{DataGraph, Name, HasEdge}
use Rattle.graph_spec.specs.Orders.{edge_cmp, edge_cmp-total, edge_cmp-exact, step_cmp, step_cmp-total, step_cmp-exact}
use Rattle.graph_spec.specs.Steps.{IsStepFrom, IsStepTo, IsStart, IsLabelled, IsMemberValue, IsCountOf}
use Rattle.live_store.specs.Shift.{Moves, IsShifted}
use Rattle.live_store.specs.Live.{Layers}
use Rattle.live_store.proofs.ListLaws.{shift_lists, shift_counts}
use Rattle.live_store.proofs.Moves.{edge_moves, labelled_moves, member_moves, out_bound, start_bound, from_bound, to_bound, labelled_bound, members_bound}

-- the test of something that moves
pub left_test : {P Q D C : Type 0} → Moves P Q D C → (b d c r : Bool) → IsTrue b ↔ P → IsTrue d ↔ D → IsTrue c ↔ C
    → IsTrue r ↔ (IsTrue c ⊎ (IsTrue b × (IsTrue d → ⊥))) → IsTrue r ↔ Q
left_test m b d c r was went came is = (
  λ t. elim (is.0 t) [
    | inl k ↦ m.comes (came.0 k)
    | inr k ↦ m.stays (was.0 k.0) (λ g. k.1 (went.1 g))
  ],
  λ q. elim (m.all q) [
    | inl p ↦ is.1 (inr (was.1 p, λ t. m.went (went.0 t) q))
    | inr k ↦ is.1 (inl (came.1 k))
  ],
)

module _ (B C D : DataGraph) (nodes : List Name) (L : DataGraph) (layers : Layers B C D nodes L) where
  pub out_listed : (u : Value) (l : Name) (bs ds cs xs : List Value) → ListsExactly value_cmp (HasEdge B u l) bs
      → ListsExactly value_cmp (HasEdge D u l) ds → ListsExactly value_cmp (HasEdge C u l) cs
      → ListsExactly value_cmp (IsShifted bs ds cs) xs → ListsExactly value_cmp (HasEdge L u l) xs
  out_listed u l = shift_lists value_cmp value_cmp-total value_cmp-exact
      {P = HasEdge B u l} {Q = HasEdge L u l} {D = HasEdge D u l} {C = HasEdge C u l} (λ v. edge_moves B C D nodes L layers u l v)

  pub out_counted : (u : Value) (l : Name) (b d c : ℕ) → IsCountOf value_cmp (HasEdge B u l) b
      → IsCountOf value_cmp (HasEdge D u l) d → IsCountOf value_cmp (HasEdge C u l) c
      → (d ≤ b) × IsCountOf value_cmp (HasEdge L u l) (b - d + c) × (b - d + c ≤ length L.edges)
  out_counted u l b d c was went came =
      let both = shift_counts value_cmp value_cmp-total value_cmp-exact
      {P = HasEdge B u l} {Q = HasEdge L u l} {D = HasEdge D u l} {C = HasEdge C u l} (λ v. edge_moves B C D nodes L layers u l v) b d c was went came in
      (both.0, both.1, out_bound L layers.whole u l (b - d + c) both.1)

  pub from_listed : (u : Value) (bs ds cs xs : List Step) → ListsExactly step_cmp (IsStepFrom B u) bs
      → ListsExactly step_cmp (IsStepFrom D u) ds → ListsExactly step_cmp (IsStepFrom C u) cs
      → ListsExactly step_cmp (IsShifted bs ds cs) xs → ListsExactly step_cmp (IsStepFrom L u) xs
  from_listed u = shift_lists step_cmp step_cmp-total step_cmp-exact
      {P = IsStepFrom B u} {Q = IsStepFrom L u} {D = IsStepFrom D u} {C = IsStepFrom C u} (λ s. edge_moves B C D nodes L layers u s.label s.end)

  pub from_counted : (u : Value) (b d c : ℕ) → IsCountOf step_cmp (IsStepFrom B u) b
      → IsCountOf step_cmp (IsStepFrom D u) d → IsCountOf step_cmp (IsStepFrom C u) c
      → (d ≤ b) × IsCountOf step_cmp (IsStepFrom L u) (b - d + c) × (b - d + c ≤ length L.edges)
  from_counted u b d c was went came =
      let both = shift_counts step_cmp step_cmp-total step_cmp-exact
      {P = IsStepFrom B u} {Q = IsStepFrom L u} {D = IsStepFrom D u} {C = IsStepFrom C u} (λ s. edge_moves B C D nodes L layers u s.label s.end) b d c was went came in
      (both.0, both.1, from_bound L layers.whole u (b - d + c) both.1)

  pub to_listed : (v : Value) (bs ds cs xs : List Step) → ListsExactly step_cmp (IsStepTo B v) bs
      → ListsExactly step_cmp (IsStepTo D v) ds → ListsExactly step_cmp (IsStepTo C v) cs
      → ListsExactly step_cmp (IsShifted bs ds cs) xs → ListsExactly step_cmp (IsStepTo L v) xs
  to_listed v = shift_lists step_cmp step_cmp-total step_cmp-exact
      {P = IsStepTo B v} {Q = IsStepTo L v} {D = IsStepTo D v} {C = IsStepTo C v} (λ s. edge_moves B C D nodes L layers s.end s.label v)

  pub to_counted : (v : Value) (b d c : ℕ) → IsCountOf step_cmp (IsStepTo B v) b
      → IsCountOf step_cmp (IsStepTo D v) d → IsCountOf step_cmp (IsStepTo C v) c
      → (d ≤ b) × IsCountOf step_cmp (IsStepTo L v) (b - d + c) × (b - d + c ≤ length L.edges)
  to_counted v b d c was went came =
      let both = shift_counts step_cmp step_cmp-total step_cmp-exact
      {P = IsStepTo B v} {Q = IsStepTo L v} {D = IsStepTo D v} {C = IsStepTo C v} (λ s. edge_moves B C D nodes L layers s.end s.label v) b d c was went came in
      (both.0, both.1, to_bound L layers.whole v (b - d + c) both.1)

  pub start_listed : (v : Value) (l : Name) (bs ds cs xs : List Value) → ListsExactly value_cmp (IsStart B v l) bs
      → ListsExactly value_cmp (IsStart D v l) ds → ListsExactly value_cmp (IsStart C v l) cs
      → ListsExactly value_cmp (IsShifted bs ds cs) xs → ListsExactly value_cmp (IsStart L v l) xs
  start_listed v l = shift_lists value_cmp value_cmp-total value_cmp-exact
      {P = IsStart B v l} {Q = IsStart L v l} {D = IsStart D v l} {C = IsStart C v l} (λ u. edge_moves B C D nodes L layers u l v)

  pub start_counted : (v : Value) (l : Name) (b d c : ℕ) → IsCountOf value_cmp (IsStart B v l) b
      → IsCountOf value_cmp (IsStart D v l) d → IsCountOf value_cmp (IsStart C v l) c
      → (d ≤ b) × IsCountOf value_cmp (IsStart L v l) (b - d + c) × (b - d + c ≤ length L.edges)
  start_counted v l b d c was went came =
      let both = shift_counts value_cmp value_cmp-total value_cmp-exact
      {P = IsStart B v l} {Q = IsStart L v l} {D = IsStart D v l} {C = IsStart C v l} (λ u. edge_moves B C D nodes L layers u l v) b d c was went came in
      (both.0, both.1, start_bound L layers.whole v l (b - d + c) both.1)

  pub labelled_listed : (l : Name) (bs ds cs xs : List Edge) → ListsExactly edge_cmp (IsLabelled B l) bs
      → ListsExactly edge_cmp (IsLabelled D l) ds → ListsExactly edge_cmp (IsLabelled C l) cs
      → ListsExactly edge_cmp (IsShifted bs ds cs) xs → ListsExactly edge_cmp (IsLabelled L l) xs
  labelled_listed l = shift_lists edge_cmp edge_cmp-total edge_cmp-exact
      {P = IsLabelled B l} {Q = IsLabelled L l} {D = IsLabelled D l} {C = IsLabelled C l} (labelled_moves B C D nodes L layers l)

  pub labelled_counted : (l : Name) (b d c : ℕ) → IsCountOf edge_cmp (IsLabelled B l) b
      → IsCountOf edge_cmp (IsLabelled D l) d → IsCountOf edge_cmp (IsLabelled C l) c
      → (d ≤ b) × IsCountOf edge_cmp (IsLabelled L l) (b - d + c) × (b - d + c ≤ length L.edges)
  labelled_counted l b d c was went came =
      let both = shift_counts edge_cmp edge_cmp-total edge_cmp-exact
      {P = IsLabelled B l} {Q = IsLabelled L l} {D = IsLabelled D l} {C = IsLabelled C l} (labelled_moves B C D nodes L layers l) b d c was went came in
      (both.0, both.1, labelled_bound L layers.whole l (b - d + c) both.1)

  pub member_listed : (collection : Name) (bs ds cs xs : List Value) → ListsExactly value_cmp (IsMemberValue B collection) bs
      → ListsExactly value_cmp (IsMemberValue D collection) ds → ListsExactly value_cmp (IsMemberValue C collection) cs
      → ListsExactly value_cmp (IsShifted bs ds cs) xs → ListsExactly value_cmp (IsMemberValue L collection) xs
  member_listed collection = shift_lists value_cmp value_cmp-total value_cmp-exact
      {P = IsMemberValue B collection} {Q = IsMemberValue L collection} {D = IsMemberValue D collection} {C = IsMemberValue C collection} (member_moves B C D nodes L layers collection)

  pub member_counted : (collection : Name) (b d c : ℕ) → IsCountOf value_cmp (IsMemberValue B collection) b
      → IsCountOf value_cmp (IsMemberValue D collection) d → IsCountOf value_cmp (IsMemberValue C collection) c
      → (d ≤ b) × IsCountOf value_cmp (IsMemberValue L collection) (b - d + c) × (b - d + c ≤ length L.members)
  member_counted collection b d c was went came =
      let both = shift_counts value_cmp value_cmp-total value_cmp-exact
      {P = IsMemberValue B collection} {Q = IsMemberValue L collection} {D = IsMemberValue D collection} {C = IsMemberValue C collection} (member_moves B C D nodes L layers collection) b d c was went came in
      (both.0, both.1, members_bound L layers.whole collection (b - d + c) both.1)
