use Rattle.std.proofs.Common.{arith, sym, subst}
use Rattle.sd_value.specs.Order.{bytes_cmp}
use Rattle.graph_spec.specs.DataGraph.{IsLabelOf}
use Rattle.graph_spec.specs.Orders.{edge_cmp}
use Rattle.graph_spec.specs.Steps.{IsCountOf, IsLabelled}
use Rattle.live_store.proofs.Moves.{labelled_bound}
use Rattle.live_store.proofs.ValueLaws.{one_itself, labelled_moved, labels_moved, label_before}
use Rattle.live_store.proofs.live.LiveStore.labels_after.Goals as goal

pub recount-left-requires-clause-there : goal.recount-left-requires-clause-there
recount-left-requires-clause-there c = (labelled_moved c.args.self.now.graph c.args.self.now.graph c.args.edge.now c.args.was c.args.was
    (one_itself c.args.self.now.graph c.args.edge.now c.args.was c.requires) c.requires
    c.edges_of-edges.result c.edges_of-edges.ensures).0

pub recount-left-requires-clause-small : goal.recount-left-requires-clause-small
recount-left-requires-clause-small c =
    let most = labelled_bound c.args.self.now.graph c.counts-before.ensures.well_formed c.args.edge.now.label
    c.edges_of-edges.result c.edges_of-edges.ensures in
    omega (arith, most, c.counts-before.ensures.told.edge_count, c.counts-before.ensures.small.edges)

pub recount-requires-clause-there : goal.recount-requires-clause-there
recount-requires-clause-there c = label_before c.args.self.now.graph c.args.edge.now.label c.counts-before.result.sizes.labels
    c.edges_of-edges.result c.counts-before.ensures.told.label_count c.edges_of-edges.ensures

pub returns : goal.returns
returns c = λ H one.
    let after = subst (IsCountOf edge_cmp (IsLabelled H c.args.edge.now.label)) (sym c.recount-left.ensures)
    (labelled_moved c.args.self.now.graph H c.args.edge.now c.args.was c.args.is one c.requires
    c.edges_of-edges.result c.edges_of-edges.ensures).1 in
    subst (IsCountOf bytes_cmp (IsLabelOf H)) (sym c.recount.ensures)
    (labels_moved c.args.self.now.graph H c.args.edge.now c.args.was c.args.is one c.requires
    c.counts-before.result.sizes.labels c.edges_of-edges.result c.recount-left.result c.counts-before.ensures.told.label_count c.edges_of-edges.ensures after).1
