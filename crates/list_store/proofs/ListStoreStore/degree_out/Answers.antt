use Rattle.std.proofs.Common.{ap, ◌∙◌, subst, length}
use Rattle.graph_spec.specs.DataGraph.{DataGraph, IsWellFormed}
use Rattle.list_lookup.specs.Picked.{in_place}
use Rattle.edge_queries.specs.Places.{at_start, step_from}
use Rattle.edge_queries.specs.Listed.{lists-out_all, counted}
use Rattle.list_store.proofs.ListStoreStore.degree_out.Goals as goal

pub returns : goal.returns
returns c =
    let same = c.edges.ensures.value ∙ ap (λ (G : DataGraph). G.edges) c.self.view_is in
    let well = subst IsWellFormed c.self.view_is c.edges.ensures.well_formed in
    counted (at_start c.args.from.now) step_from c.args.self.now.edges c.count.result (c.count.ensures ∙ ap (λ xs. length (in_place (at_start c.args.from.now) xs)) same) (lists-out_all c.args.self.now well c.args.from.now)
