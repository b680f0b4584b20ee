use Rattle.std.proofs.Common.{subst}
use Rattle.std.proofs.lemmas.Result.{IfOk-weaker}
use Rattle.std.specs.Option.{option_copied}
use Rattle.sd_value.specs.Ascending.{ListsExactly}
use Rattle.sd_value.specs.Order.{value_cmp}
use Rattle.graph_spec.specs.Steps.{IsStart}
use Rattle.edge_queries.specs.Places.{at_end_label}
use Rattle.graph_spec.specs.declared.Edge.{Edge}
use Rattle.graph_spec.specs.DataGraph.{DataGraph, node}
use Rattle.live_layers.specs.Grouped.{elements}
use Rattle.live_layers.specs.Items.{layer_graph}
use Rattle.live_layers.proofs.PickLaws.{picks}
use Rattle.live_layers.proofs.GivesLaws.{gives_incoming_by}
use Rattle.live_layers.proofs.layer.Layer.incoming_by.Goals as goal

pub returns : goal.returns
returns c = IfOk-weaker c.pick.result _ _
    (λ found is. subst (λ (G : DataGraph). ListsExactly value_cmp (IsStart G c.args.to.now c.args.label.now) found.items) c.self.view_is
    (picks (at_end_label c.args.to.now c.args.label.now) (λ (e : Edge). node e.from)
    (IsStart (layer_graph c.self.inside.edges c.self.inside.members) c.args.to.now c.args.label.now)
    (elements (option_copied c.to.result))
    (gives_incoming_by (layer_graph c.self.inside.edges c.self.inside.members) (elements (option_copied c.to.result)) c.args.to.now c.to.ensures c.args.label.now)
    value_cmp found.items is))
    c.pick.ensures
