use Rattle.std.proofs.Common.{ap, ◌∙◌, subst, sym, map, take}
use Rattle.std.proofs.lemmas.List.{take-map}
use Rattle.std.proofs.lemmas.Result.{IfOk-weaker}
use Rattle.sd_value.specs.Ascending.{ListsExactly}
use Rattle.sd_value.specs.Order.{value_cmp}
use Rattle.graph_spec.specs.DataGraph.{DataGraph, IsValueOf}
use Rattle.index_store.specs.Indexed.{value_at}
use Rattle.index_store.proofs.IndexStoreStore.first_values.Goals as goal

pub returns : goal.returns
returns c =
    let kept = c.self.inside in
    let all = subst (λ (G : DataGraph). ListsExactly value_cmp (IsValueOf G) (map (value_at kept.graph) kept.values.items)) c.self.view_is c.self.invariant.stored.values in
    let chosen = c.first.ensures ∙ ap (take c.args.most) c.as_slice.ensures.value in
    IfOk-weaker c.values_at.result _ _
    (λ found is. (_, all, is ∙ ap (map (value_at kept.graph)) chosen ∙ sym (take-map (value_at kept.graph) c.args.most kept.values.items)))
    c.values_at.ensures
