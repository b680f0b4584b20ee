use Rattle.std.proofs.Common.{ap, ◌∙◌, subst, sym, length}
use Rattle.sd_value.specs.AscendingLaws.{listed_as}
use Rattle.graph_spec.specs.DataGraph.{DataGraph, IsWellFormed}
use Rattle.graph_spec.specs.Orders.{edge_cmp-total, step_cmp-total, step_cmp-exact}
use Rattle.list_lookup.specs.Picked.{in_place}
use Rattle.edge_queries.specs.Places.{at_end, step_to}
use Rattle.edge_queries.specs.Listed.{picks-incoming}
use Rattle.list_store.proofs.CountLaws.{counted_apart}
use Rattle.list_store.proofs.EdgeLaws.{steps_apart}
use Rattle.list_store.proofs.ListStoreStore.degree_incoming.Goals as goal

pub returns : goal.returns
returns c =
    let same = c.edges.ensures.value ∙ ap (λ (G : DataGraph). G.edges) c.self.view_is in
    let well = subst IsWellFormed c.self.view_is c.edges.ensures.well_formed in
    let place = at_end c.args.to.now in
    let (steps, all, n) = counted_apart step_cmp-total step_cmp-exact edge_cmp-total place step_to (steps_apart c.args.to.now) c.args.self.now.edges well.edges_ascend in
    let picks = picks-incoming c.args.self.now well c.args.to.now in
    (steps, listed_as all (λ s. (picks s).0) (λ s. (picks s).1), n ∙ sym (c.count.ensures ∙ ap (λ es. length (in_place place es)) same))
