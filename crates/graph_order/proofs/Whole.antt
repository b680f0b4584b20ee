-- What the answers to one ORDER and to all of them say.
use Rattle.std.proofs.Common.{◌≡◌, ℕ, ◌+◌, ◌<◌, ◌≤◌, List, [], ◌∷◌, ◌++◌, length, get_or, map, take, Result, Ok, Err, None, refl, sym, ap, ◌∙◌, subst, arith}
use Rattle.std.specs.Prelude.{Contains, flat_map}
use Rattle.std.proofs.lemmas.List.{take_more, take_all, get_or-map, length-map}
use Rattle.sd_value.specs.Names.{Name}
use Rattle.graph_spec.specs.DataGraph.{DataGraph, IsWellFormed}
use Rattle.graph_spec.specs.Statement.{Statement, a_node}
use Rattle.sd_graph.specs.Statement.{Building, IsEmpty, IsWithin}
use Rattle.sd_graph.specs.declared.Limits.{Limits}
use Rattle.sd_graph.specs.declared.GraphRefusal.{GraphRefusal}
use Rattle.sd_graph.specs.declared.GraphRefusal.TheVariants.{TooManyNodes, TooManyEdges, NoMemory}
use Rattle.order_spec.specs.Order.{Order, ordered, all_ordered, in_order, edges_along}
use Rattle.graph_order.specs.Adding.{building_of, PutsIn, IsCopy, stated_edge, stated_member}
use Rattle.graph_order.specs.Answers.{Fits, Overflows, AnswersOrder, AnswersOrders}
use Rattle.graph_order.specs.Numbers.{numbers_from, edges_of_member, numbered_cmp}
use Rattle.graph_order.specs.declared.numbers.Numbered.{Numbered}
use Rattle.graph_order.proofs.ByNode.{stated_members}
use Rattle.sd_value.specs.Ascending.{ListsExactly}
use Rattle.key_spec.specs.Keys.{folded_text}
use Rattle.order_spec.specs.Read.{order_of}
use Rattle.order_spec.specs.declared.Order.{Order as CodeOrder}
use Rattle.graph_order.specs.declared.OrderFault.TheVariants.{TooManyEdges as Grows}
use Rattle.graph_order.proofs.Growth.{IsOver, over}
use Rattle.graph_order.proofs.Copies.{with_nodes, with_edges, with_members, nodes_put, edges_put, members_put, order_put}

module _ (limits : Limits) (G : DataGraph) (w : IsWellFormed G) (fits : Fits limits G) where
  none_refused : (b : Building) → IsWithin b → (e : GraphRefusal) → IsOver b e → IsCopy limits G (Err e)
  none_refused b within TooManyNodes h = absurd (omega (arith, within.0, h))
  none_refused b within TooManyEdges h = absurd (omega (arith, within.1, h))
  none_refused b within NoMemory h = tt

  pub nodes_refused : (b c : Building) → b.limits ≡ limits → IsEmpty b.graph → (e : GraphRefusal) → PutsIn (map a_node G.nodes) b c (Err e)
      → IsCopy limits G (Err e)
  nodes_refused b c same empty e h =
      none_refused (with_nodes limits G w) (fits.0, omega arith) e
      (subst (λ z. IsOver z e) (nodes_put limits G w b same empty) (over (map a_node G.nodes) b c e h))

  pub edges_refused : (b c : Building) → b ≡ with_nodes limits G w → (e : GraphRefusal) → PutsIn (map stated_edge G.edges) b c (Err e)
      → IsCopy limits G (Err e)
  edges_refused b c is e h =
      none_refused (with_edges limits G w) (fits.0, omega (arith, fits.1)) e
      (subst (λ z. IsOver z e) (ap (λ z. building_of z (map stated_edge G.edges)) is ∙ edges_put limits G w) (over (map stated_edge G.edges) b c e h))

  pub members_refused : (b c : Building) → b ≡ with_edges limits G w → (e : GraphRefusal) → PutsIn (map stated_member G.members) b c (Err e)
      → IsCopy limits G (Err e)
  members_refused b c is e h =
      none_refused (with_members limits G w) fits e
      (subst (λ z. IsOver z e) (ap (λ z. building_of z (map stated_member G.members)) is ∙ members_put limits G w)
      (over (map stated_member G.members) b c e h))

  -- ---- one ORDER

  pub copy_refused : (o : Order) (e : GraphRefusal) → IsCopy limits G (Err e) → AnswersOrder limits o G (Err e)
  copy_refused o TooManyNodes h = absurd h
  copy_refused o TooManyEdges h = absurd h
  copy_refused o NoMemory h = tt

  abbrev pub made : Order → Building
  made o = record { limits = limits; graph = ordered folded_text o G }

  order_over : (o : Order) (e : GraphRefusal) → IsOver (made o) e → AnswersOrder limits o G (Err e)
  order_over o TooManyNodes h = absurd (omega (arith, fits.0, h))
  order_over o TooManyEdges h = h
  order_over o NoMemory h = tt

  module _ (o : Order) (ns : List Name) (named : ns ≡ in_order folded_text G o) (ms : List Numbered)
      (all : ListsExactly numbered_cmp (Contains (numbers_from 0 ns)) ms) (b : Building) (is : b ≡ with_members limits G w) where
    abbrev pub all_stated : List Statement
    all_stated = flat_map (λ (m : Numbered). map stated_edge (edges_of_member o.places ns m)) ms

    pub along_made : building_of b all_stated ≡ made o
    along_made =
        ap (λ (z : Building). building_of z all_stated) is
        ∙ ap (building_of (with_members limits G w)) (stated_members o.places ns ms all)
        ∙ order_put limits G w folded_text o ns named ms all

    pub along_refused : (c : Building) (e : GraphRefusal) → PutsIn all_stated b c (Err e) → AnswersOrder limits o G (Err e)
    along_refused c e h = order_over o e (subst (λ z. IsOver z e) along_made (over all_stated b c e h))

pub answered : (limits : Limits) (o : Order) (G : DataGraph) (r : Result DataGraph GraphRefusal) (e : GraphRefusal) → AnswersOrder limits o G r
    → r ≡ Err e → e ≡ TooManyEdges → AnswersOrder limits o G (Err TooManyEdges)
answered limits o G r e h is grows =
    subst (AnswersOrder limits o G) (is ∙ ap (λ (x : GraphRefusal). Err x) grows) h

-- ---- all ORDERs

more_ordered : (f : Name → Name) (os : List Order) (o : Order) (G : DataGraph) → all_ordered f (os ++ o ∷ []) G ≡ ordered f o (all_ordered f os G)
more_ordered f [] o G = refl
more_ordered f (p ∷ os) o G = more_ordered f os o (ordered f p G)

module _ (limits : Limits) (G : DataGraph) (orders : List CodeOrder) where
  abbrev pub whole : List Order
  whole = map order_of orders

  -- the graph after some ORDERs has room
  pub record HasMade (i : ℕ) (H : DataGraph) : Type 0 where
    pub is : H ≡ all_ordered folded_text (take i whole) G
    pub fits : Fits limits H

  module _ (i : ℕ) (o : CodeOrder) (l : i < length orders) (at : o ≡ get_or orders i o) (H : DataGraph) (so_far : HasMade i H) where
    one_more : all_ordered folded_text (take (i + 1) whole) G ≡ ordered folded_text (order_of o) H
    one_more =
        let within : i < length whole = omega (arith, l, length-map orders order_of) in
        let here : get_or whole i (order_of o) ≡ order_of o = get_or-map order_of orders i o (order_of o) l ∙ ap order_of (sym at) in
        ap (λ os. all_ordered folded_text os G) (take_more whole i (order_of o) within ∙ ap (λ z. take i whole ++ z ∷ []) here)
        ∙ more_ordered folded_text (take i whole) (order_of o) G
        ∙ ap (ordered folded_text (order_of o)) (sym so_far.is)

    pub next_made : (K : DataGraph) → AnswersOrder limits (order_of o) H (Ok K) → HasMade (i + 1) K
    next_made K h = record { is = h.0 ∙ sym one_more; fits = h.1 }

    pub grows_here : AnswersOrder limits (order_of o) H (Err TooManyEdges) → AnswersOrders limits whole G (Err (Grows i))
    grows_here h = (
      omega (arith, l, length-map orders order_of),
      subst (Fits limits) so_far.is so_far.fits,
      subst (Overflows limits) (sym one_more) h,
    )

  pub all_made : (i : ℕ) (H : DataGraph) → length orders ≤ i → HasMade i H → AnswersOrders limits whole G (Ok H)
  all_made i H l so_far =
      (so_far.is ∙ ap (λ os. all_ordered folded_text os G) (take_all i whole (omega (arith, l, length-map orders order_of))), so_far.fits)
