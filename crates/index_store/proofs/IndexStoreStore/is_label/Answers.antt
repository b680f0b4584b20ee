use Rattle.std.proofs.Common.{subst, sym, List}
use Rattle.sd_value.specs.Ascending.{ListsExactly}
use Rattle.sd_value.specs.Order.{bytes_cmp}
use Rattle.graph_spec.specs.DataGraph.{DataGraph, Name, IsLabelOf}
use Rattle.list_lookup.specs.Picked.{IsPlaced}
use Rattle.edge_queries.specs.Listed.{placed-name, name_found}
use Rattle.index_store.proofs.IndexStoreStore.is_label.Goals as goal

pub has-requires : goal.has-requires
has-requires c = subst (λ (ns : List Name). IsPlaced (λ m. bytes_cmp m c.args.label.now) ns) (sym c.as_slice.ensures.value) (placed-name c.args.label.now c.self.inside.labels.items c.self.invariant.stored.labels.ascending)

pub returns : goal.returns
returns c =
    let all = subst (λ (G : DataGraph). ListsExactly bytes_cmp (IsLabelOf G) c.self.inside.labels.items) c.self.view_is c.self.invariant.stored.labels in
    let here = subst (λ (ns : List Name). ListsExactly bytes_cmp (IsLabelOf c.args.self.now) ns) (sym c.as_slice.ensures.value) all in
    let found = name_found c.args.label.now c.as_slice.result.now here in
    (λ yes. found.0 (c.has.ensures.0 yes), λ is. c.has.ensures.1 (found.1 is))
