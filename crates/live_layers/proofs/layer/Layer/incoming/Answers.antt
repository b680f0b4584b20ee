use Rattle.std.proofs.Common.{subst}
use Rattle.std.proofs.lemmas.Result.{IfOk-weaker}
use Rattle.std.specs.Option.{option_copied}
use Rattle.sd_value.specs.Ascending.{ListsExactly}
use Rattle.graph_spec.specs.Orders.{step_cmp}
use Rattle.graph_spec.specs.Steps.{IsStepTo}
use Rattle.edge_queries.specs.Places.{at_end, step_to}
use Rattle.graph_spec.specs.DataGraph.{DataGraph}
use Rattle.live_layers.specs.Grouped.{elements}
use Rattle.live_layers.specs.Items.{layer_graph}
use Rattle.live_layers.proofs.PickLaws.{picks}
use Rattle.live_layers.proofs.GivesLaws.{gives_incoming}
use Rattle.live_layers.proofs.layer.Layer.incoming.Goals as goal

pub returns : goal.returns
returns c = IfOk-weaker c.pick.result _ _
    (λ found is. subst (λ (G : DataGraph). ListsExactly step_cmp (IsStepTo G c.args.to.now) found.items) c.self.view_is
    (picks (at_end c.args.to.now) (step_to)
    (IsStepTo (layer_graph c.self.inside.edges c.self.inside.members) c.args.to.now)
    (elements (option_copied c.to.result))
    (gives_incoming (layer_graph c.self.inside.edges c.self.inside.members) (elements (option_copied c.to.result)) c.args.to.now c.to.ensures)
    step_cmp found.items is))
    c.pick.ensures
