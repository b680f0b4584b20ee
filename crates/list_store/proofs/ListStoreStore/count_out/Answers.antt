use Rattle.std.proofs.Common.{ap, ◌∙◌, subst, length}
use Rattle.graph_spec.specs.DataGraph.{DataGraph, IsWellFormed}
use Rattle.list_lookup.specs.Picked.{in_place}
use Rattle.edge_queries.specs.Places.{at_start_label}
use Rattle.edge_queries.specs.Listed.{lists-out, counted}
use Rattle.list_store.proofs.ListStoreStore.count_out.Goals as goal

pub returns : goal.returns
returns c =
    let same = c.edges.ensures.value ∙ ap (λ (G : DataGraph). G.edges) c.self.view_is in
    let well = subst IsWellFormed c.self.view_is c.edges.ensures.well_formed in
    counted (at_start_label c.args.from.now c.args.label.now) (λ e. e.to) c.args.self.now.edges c.count.result (c.count.ensures ∙ ap (λ xs. length (in_place (at_start_label c.args.from.now c.args.label.now) xs)) same) (lists-out c.args.self.now well c.args.from.now c.args.label.now)
