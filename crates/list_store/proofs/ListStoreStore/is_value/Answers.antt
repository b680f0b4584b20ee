use Rattle.std.proofs.Common.{subst, sym}
use Rattle.std.specs.List.Sorted.{IsStrictlySortedBy}
use Rattle.sd_value.specs.Ascending.{ListsExactly}
use Rattle.sd_value.specs.Order.{value_cmp}
use Rattle.graph_spec.specs.DataGraph.{DataGraph, IsValueOf}
use Rattle.list_lookup.specs.Picked.{HasOne}
use Rattle.edge_queries.specs.Listed.{value_found, placed-value}
use Rattle.list_store.proofs.ListStoreStore.is_value.Goals as goal

pub has-requires : goal.has-requires
has-requires c = placed-value c.args.value.now c.as_slice.result.now (subst (IsStrictlySortedBy value_cmp) (sym c.as_slice.ensures.value) c.self.invariant.values.ascending)

pub returns : goal.returns
returns c =
    let all = subst (λ (G : DataGraph). ListsExactly value_cmp (IsValueOf G) c.self.inside.values.items) c.self.view_is c.self.invariant.values in
    let found = value_found c.args.value.now c.self.inside.values.items all in (
      λ yes. found.0 (subst (HasOne (λ w. value_cmp w c.args.value.now)) c.as_slice.ensures.value (c.has.ensures.0 yes)),
      λ has. c.has.ensures.1 (subst (HasOne (λ w. value_cmp w c.args.value.now)) (sym c.as_slice.ensures.value) (found.1 has)),
    )
