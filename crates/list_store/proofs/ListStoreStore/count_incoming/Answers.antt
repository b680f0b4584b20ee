use Rattle.std.proofs.Common.{ap, ◌∙◌, subst, sym, length}
use Rattle.sd_value.specs.AscendingLaws.{listed_as}
use Rattle.sd_value.specs.OrderLaws.{value_cmp-total, value_cmp-exact}
use Rattle.graph_spec.specs.DataGraph.{DataGraph, node, IsWellFormed}
use Rattle.graph_spec.specs.Orders.{edge_cmp-total}
use Rattle.list_lookup.specs.Picked.{in_place}
use Rattle.edge_queries.specs.Places.{at_end_label}
use Rattle.edge_queries.specs.Listed.{picks-incoming_by}
use Rattle.list_store.proofs.CountLaws.{counted_apart}
use Rattle.list_store.proofs.EdgeLaws.{starts_apart}
use Rattle.list_store.proofs.ListStoreStore.count_incoming.Goals as goal

pub returns : goal.returns
returns c =
    let same = c.edges.ensures.value ∙ ap (λ (G : DataGraph). G.edges) c.self.view_is in
    let well = subst IsWellFormed c.self.view_is c.edges.ensures.well_formed in
    let place = at_end_label c.args.to.now c.args.label.now in
    let (starts, all, n) = counted_apart value_cmp-total value_cmp-exact edge_cmp-total place (λ e. node e.from) (starts_apart c.args.to.now c.args.label.now) c.args.self.now.edges well.edges_ascend in
    let picks = picks-incoming_by c.args.self.now well c.args.to.now c.args.label.now in
    (starts, listed_as all (λ u. (picks u).0) (λ u. (picks u).1), n ∙ sym (c.count.ensures ∙ ap (λ es. length (in_place place es)) same))
