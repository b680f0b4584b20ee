use Rattle.std.proofs.Common.{ap, ◌∙◌, subst, map}
use Rattle.std.proofs.lemmas.Result.{IfOk-weaker}
use Rattle.sd_value.specs.Ascending.{ListsExactly}
use Rattle.sd_value.specs.Order.{value_cmp}
use Rattle.graph_spec.specs.DataGraph.{DataGraph, IsValueOf}
use Rattle.edge_queries.specs.Listed.{listed-is}
use Rattle.index_store.specs.Indexed.{value_at}
use Rattle.index_store.proofs.IndexStoreStore.values.Goals as goal

pub returns : goal.returns
returns c =
    let kept = c.self.inside in
    let all = subst (λ (G : DataGraph). ListsExactly value_cmp (IsValueOf G) (map (value_at kept.graph) kept.values.items)) c.self.view_is c.self.invariant.stored.values in
    IfOk-weaker c.values_at.result _ _ (λ found is. listed-is found.items _ (is ∙ ap (map (value_at kept.graph)) c.as_slice.ensures.value) all) c.values_at.ensures
