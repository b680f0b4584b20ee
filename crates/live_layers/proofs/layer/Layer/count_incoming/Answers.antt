use Rattle.std.proofs.Common.{sym, subst}
use Rattle.std.specs.Option.{option_copied}
use Rattle.sd_value.specs.Order.{value_cmp}
use Rattle.sd_value.specs.OrderLaws.{value_cmp-total, value_cmp-exact}
use Rattle.graph_spec.specs.Steps.{IsCountOf, IsStart}
use Rattle.edge_queries.specs.Places.{at_end_label}
use Rattle.graph_spec.specs.declared.Edge.{Edge}
use Rattle.graph_spec.specs.Orders.{edge_cmp, edge_cmp-total}
use Rattle.graph_spec.specs.DataGraph.{DataGraph, node}
use Rattle.live_layers.specs.Grouped.{elements}
use Rattle.live_layers.specs.Items.{layer_graph}
use Rattle.live_layers.proofs.PickLaws.{picks_count}
use Rattle.live_layers.proofs.GivesLaws.{gives_incoming_by}
use Rattle.live_layers.proofs.layer.Layer.count_incoming.Goals as goal

pub returns : goal.returns
returns c = subst (λ (G : DataGraph). IsCountOf value_cmp (IsStart G c.args.to.now c.args.label.now) c.count.result) c.self.view_is
    (subst (IsCountOf value_cmp (IsStart (layer_graph c.self.inside.edges c.self.inside.members) c.args.to.now c.args.label.now)) (sym c.count.ensures)
    (picks_count (at_end_label c.args.to.now c.args.label.now) (λ (e : Edge). node e.from)
    (IsStart (layer_graph c.self.inside.edges c.self.inside.members) c.args.to.now c.args.label.now)
    (elements (option_copied c.to.result))
    (gives_incoming_by (layer_graph c.self.inside.edges c.self.inside.members) (elements (option_copied c.to.result)) c.args.to.now c.to.ensures c.args.label.now)
    edge_cmp edge_cmp-total c.to.ensures.ascending value_cmp value_cmp-total value_cmp-exact))
