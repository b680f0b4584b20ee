use Rattle.std.proofs.Common.{subst, sym}
use Rattle.std.specs.List.Sorted.{IsStrictlySortedBy}
use Rattle.sd_value.specs.Ascending.{ListsExactly}
use Rattle.sd_value.specs.Order.{bytes_cmp}
use Rattle.graph_spec.specs.DataGraph.{DataGraph, IsLabelOf}
use Rattle.list_lookup.specs.Picked.{HasOne}
use Rattle.edge_queries.specs.Listed.{name_found, placed-name}
use Rattle.list_store.proofs.ListStoreStore.is_label.Goals as goal

pub has-requires : goal.has-requires
has-requires c = placed-name c.args.label.now c.as_slice.result.now (subst (IsStrictlySortedBy bytes_cmp) (sym c.as_slice.ensures.value) c.self.invariant.labels.ascending)

pub returns : goal.returns
returns c =
    let all = subst (λ (G : DataGraph). ListsExactly bytes_cmp (IsLabelOf G) c.self.inside.labels.items) c.self.view_is c.self.invariant.labels in
    let found = name_found c.args.label.now c.self.inside.labels.items all in (
      λ yes. found.0 (subst (HasOne (λ m. bytes_cmp m c.args.label.now)) c.as_slice.ensures.value (c.has.ensures.0 yes)),
      λ has. c.has.ensures.1 (subst (HasOne (λ m. bytes_cmp m c.args.label.now)) (sym c.as_slice.ensures.value) (found.1 has)),
    )
