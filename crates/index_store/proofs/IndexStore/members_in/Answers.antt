use Rattle.std.proofs.Common.{◌≡◌, ap, ◌∙◌, sym, subst, length}
use Rattle.std.specs.Prelude.{◌<◌, ◌≤◌, ◌-◌, List, HoldsAt, take, drop}
use Rattle.std.specs.List.Sorted.{IsStrictlySortedBy}
use Rattle.std.specs.declared.cmp.Ordering.TheVariants.{Equal}
use Rattle.sd_value.specs.Order.{bytes_cmp}
use Rattle.list_lookup.specs.Picked.{in_place}
use Rattle.edge_queries.specs.Places.{at_collection}
use Rattle.graph_spec.specs.DataGraph.{DataGraph, Name}
use Rattle.graph_spec.specs.Orders.{member_cmp}
use Rattle.graph_spec.specs.declared.Member.{Member}
use Rattle.edge_queries.specs.Listed.{placed-collection}
use Rattle.index_store.proofs.LookLaws.{collection_span}
use Rattle.index_store.proofs.IndexStore.members_in.Goals as goal

pub in_span-requires : goal.in_span-requires
in_span-requires c =
    let s = c.self.inside in
    let span = c.index.result.now in
    let is = collection_span s.graph s.by_end.items s.by_label.items s.values.items s.labels.items s.collections.items s.from.items s.to.items s.of_label.items s.of_collection.items c.self.invariant.spans c.args.collection.now c.in-Ok.number span
    (subst (λ (names : List Name). c.in-Ok.number < length names) c.deref.ensures.value c.in-Ok.ensures.bound)
    (subst (λ (names : List Name). HoldsAt (λ n. bytes_cmp n c.args.collection.now ≡ Equal) names c.in-Ok.number) c.deref.ensures.value c.in-Ok.ensures.ok) c.index.ensures in
    (is.up, subst (λ (ms : List Member). span.end ≤ length ms) (sym c.member_pairs-members.ensures.value) is.fits)

pub part-requires : goal.part-requires
part-requires c = placed-collection c.args.collection.now c.member_pairs-members.result.now (subst (IsStrictlySortedBy member_cmp) (sym c.member_pairs-members.ensures.value) c.member_pairs-members.ensures.well_formed.members_ascend)

pub returns-in-Ok-clause-members : goal.returns-in-Ok-clause-members
returns-in-Ok-clause-members c =
    let s = c.self.inside in
    let span = c.index.result.now in
    let is = collection_span s.graph s.by_end.items s.by_label.items s.values.items s.labels.items s.collections.items s.from.items s.to.items s.of_label.items s.of_collection.items c.self.invariant.spans c.args.collection.now c.in-Ok.number span
    (subst (λ (names : List Name). c.in-Ok.number < length names) c.deref.ensures.value c.in-Ok.ensures.bound)
    (subst (λ (names : List Name). HoldsAt (λ n. bytes_cmp n c.args.collection.now ≡ Equal) names c.in-Ok.number) c.deref.ensures.value c.in-Ok.ensures.ok) c.index.ensures in
    c.in_span.ensures ∙ ap (λ (ms : List Member). take (span.end - span.start) (drop span.start ms)) c.member_pairs-members.ensures.value ∙ is.exact
    ∙ ap (λ (G : DataGraph). in_place (at_collection c.args.collection.now) G.members) c.self.view_is
