use Rattle.std.proofs.Common.{ap, ◌∙◌, subst}
use Rattle.graph_spec.specs.DataGraph.{DataGraph, IsWellFormed}
use Rattle.std.proofs.Common.{length}
use Rattle.list_lookup.specs.Picked.{in_place}
use Rattle.edge_queries.specs.Places.{at_label}
use Rattle.edge_queries.specs.Listed.{lists-labelled, counted}
use Rattle.list_store.proofs.ListStoreStore.edges_of.Goals as goal

pub returns : goal.returns
returns c =
    let same = c.edges.ensures.value ∙ ap (λ (G : DataGraph). G.edges) c.self.view_is in
    let well = subst IsWellFormed c.self.view_is c.edges.ensures.well_formed in
    counted (at_label c.args.label.now) (λ e. e) c.args.self.now.edges c.count.result (c.count.ensures ∙ ap (λ xs. length (in_place (at_label c.args.label.now) xs)) same) (lists-labelled c.args.self.now well c.args.label.now)
