use Rattle.std.proofs.Common.{sym, subst}
use Rattle.std.specs.Option.{option_copied}
use Rattle.sd_value.specs.Order.{value_cmp}
use Rattle.sd_value.specs.OrderLaws.{value_cmp-total, value_cmp-exact}
use Rattle.edge_queries.specs.Places.{at_start_label}
use Rattle.graph_spec.specs.declared.Edge.{Edge}
use Rattle.graph_spec.specs.Orders.{edge_cmp, edge_cmp-total}
use Rattle.graph_spec.specs.Steps.{IsCountOf}
use Rattle.graph_spec.specs.DataGraph.{DataGraph, HasEdge}
use Rattle.live_layers.specs.Grouped.{elements}
use Rattle.live_layers.specs.Items.{layer_graph}
use Rattle.live_layers.proofs.PickLaws.{picks_count}
use Rattle.live_layers.proofs.GivesLaws.{gives_out}
use Rattle.live_layers.proofs.layer.Layer.count_out.Goals as goal

pub returns : goal.returns
returns c = subst (λ (G : DataGraph). IsCountOf value_cmp (HasEdge G c.args.from.now c.args.label.now) c.count.result) c.self.view_is
    (subst (IsCountOf value_cmp (HasEdge (layer_graph c.self.inside.edges c.self.inside.members) c.args.from.now c.args.label.now)) (sym c.count.ensures)
    (picks_count (at_start_label c.args.from.now c.args.label.now) (λ (e : Edge). e.to)
    (HasEdge (layer_graph c.self.inside.edges c.self.inside.members) c.args.from.now c.args.label.now)
    (elements (option_copied c.from.result))
    (gives_out (layer_graph c.self.inside.edges c.self.inside.members) (elements (option_copied c.from.result)) c.args.from.now c.from.ensures c.args.label.now)
    edge_cmp edge_cmp-total c.from.ensures.ascending value_cmp value_cmp-total value_cmp-exact))
