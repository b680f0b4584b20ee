use Rattle.std.proofs.Common.{subst}
use Rattle.std.proofs.lemmas.Result.{IfOk-weaker}
use Rattle.std.specs.Option.{option_copied}
use Rattle.sd_value.specs.Ascending.{ListsExactly}
use Rattle.graph_spec.specs.Orders.{edge_cmp}
use Rattle.graph_spec.specs.Steps.{IsLabelled}
use Rattle.edge_queries.specs.Places.{at_label}
use Rattle.graph_spec.specs.declared.Edge.{Edge}
use Rattle.graph_spec.specs.DataGraph.{DataGraph}
use Rattle.live_layers.specs.Grouped.{elements}
use Rattle.live_layers.specs.Items.{layer_graph}
use Rattle.live_layers.proofs.PickLaws.{picks}
use Rattle.live_layers.proofs.GivesLaws.{gives_labelled}
use Rattle.live_layers.proofs.layer.Layer.edges_by.Goals as goal

pub returns : goal.returns
returns c = IfOk-weaker c.pick.result _ _
    (λ found is. subst (λ (G : DataGraph). ListsExactly edge_cmp (IsLabelled G c.args.label.now) found.items) c.self.view_is
    (picks (at_label c.args.label.now) (λ (e : Edge). e)
    (IsLabelled (layer_graph c.self.inside.edges c.self.inside.members) c.args.label.now)
    (elements (option_copied c.labelled.result))
    (gives_labelled (layer_graph c.self.inside.edges c.self.inside.members) (elements (option_copied c.labelled.result)) c.args.label.now c.labelled.ensures)
    edge_cmp found.items is))
    c.pick.ensures
