-- The order of members is total, and members that tie are one: so the list in order has each of them once.
use Rattle.std.proofs.Common.{◌≡◌, [], subst, inl, inr}
use Rattle.std.specs.Prelude.{filter, Contains}
use Rattle.std.specs.Cmp.{IsTotalOrder}
use Rattle.std.specs.FinMap.{IsAntisymmetric}
use Rattle.std.proofs.lemmas.Cmp.{on_total, then_total}
use Rattle.sd_value.specs.Order.{bytes_cmp}
use Rattle.sd_value.specs.OrderLaws.{bytes_cmp-exact, bytes_cmp-total, both_tie}
use Rattle.sd_value.specs.Ascending.{ListsExactly}
use Rattle.sd_value.specs.AscendingLaws.{lists_nothing}
use Rattle.sd_value.specs.Members.{Contains-nil, Contains-map, Contains-mapped}
use Rattle.graph_spec.specs.declared.Member.{Member}
use Rattle.graph_spec.specs.DataGraph.{DataGraph, Name, node, HasMember}
use Rattle.key_spec.specs.Keys.{folded_cmp, turned_cmp, keyed_cmp}
use Rattle.key_spec.specs.KeyLaws.{turned_total, keyed_total, folded_total}
use Rattle.order_spec.specs.Order.{Order, same, least, reached, order_cmp, nodes_in, in_order}
use Rattle.sd_graph.proofs.Gathering.{all_inserted-cases, all_inserted-ascends, all_inserted-here}
use Rattle.order_laws.proofs.Ordered.{kept_to, kept_from, same_is, same_itself}

module _ (f : Name → Name) (G : DataGraph) (o : Order) where
  pub order_total : IsTotalOrder (order_cmp f G o)
  order_total =
      then_total (on_total (λ n. least (folded_cmp f o.fold) (reached G o.word (node n))) (keyed_total (turned_total (folded_total f o.fold) o.descend)))
      bytes_cmp-total

  pub order_exact : IsAntisymmetric (order_cmp f G o)
  order_exact m n h = bytes_cmp-exact m n (both_tie _ (bytes_cmp m n) h).1

  pub member : (n : Name) → HasMember G o.collection n → Contains (nodes_in G o.collection) n
  member n m =
      Contains-mapped (λ (k : Member). k.node) (filter (λ k. same k.collection o.collection) G.members) (record { collection = o.collection; node = n })
      (kept_to (λ (k : Member). same k.collection o.collection) G.members (record { collection = o.collection; node = n }) m (same_itself o.collection))

  pub of_member : (n : Name) → Contains (nodes_in G o.collection) n → HasMember G o.collection n
  of_member n c =
      let at = Contains-map (λ (k : Member). k.node) (filter (λ k. same k.collection o.collection) G.members) n c in
      let kept = kept_from (λ (k : Member). same k.collection o.collection) G.members at.0 at.2 in
      let named = same_is at.0.collection o.collection kept.1 in
      let is : at.0 ≡ record { collection = o.collection; node = n } = λ i. record { collection = named i; node = at.1 i } in
      subst (Contains G.members) is kept.0

  pub in_order_exactly : ListsExactly (order_cmp f G o) (HasMember G o.collection) (in_order f G o)
  in_order_exactly = record {
    ascending = all_inserted-ascends order_total order_exact [] (nodes_in G o.collection) ((lists_nothing (order_cmp f G o) (λ n. ⊥) (λ n h. h)).ascending);
    sound = λ n c. elim (all_inserted-cases (order_cmp f G o) [] (nodes_in G o.collection) n c) [ inl none ↦ absurd (Contains-nil n none) | inr h ↦ of_member n h ];
    complete = λ n m. all_inserted-here order_total order_exact [] (nodes_in G o.collection) n (member n m);
  }
