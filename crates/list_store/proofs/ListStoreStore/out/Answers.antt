use Rattle.std.proofs.Common.{ap, ◌∙◌, subst}
use Rattle.graph_spec.specs.DataGraph.{DataGraph, IsWellFormed}
use Rattle.std.proofs.lemmas.Result.{IfOk-weaker}
use Rattle.list_lookup.specs.Picked.{picked}
use Rattle.edge_queries.specs.Places.{at_start_label}
use Rattle.edge_queries.specs.Listed.{lists-out, listed-is}
use Rattle.list_store.proofs.ListStoreStore.out.Goals as goal

pub returns : goal.returns
returns c =
    let same = c.edges.ensures.value ∙ ap (λ (G : DataGraph). G.edges) c.self.view_is in
    let well = subst IsWellFormed c.self.view_is c.edges.ensures.well_formed in
    IfOk-weaker c.scan.result _ _ (λ found is. listed-is found.items _ (is ∙ ap (picked (at_start_label c.args.from.now c.args.label.now) (λ e. e.to)) same) (lists-out c.args.self.now well c.args.from.now c.args.label.now)) c.scan.ensures
