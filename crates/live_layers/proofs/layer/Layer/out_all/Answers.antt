use Rattle.std.proofs.Common.{subst}
use Rattle.std.proofs.lemmas.Result.{IfOk-weaker}
use Rattle.std.specs.Option.{option_copied}
use Rattle.sd_value.specs.Ascending.{ListsExactly}
use Rattle.graph_spec.specs.Orders.{step_cmp}
use Rattle.graph_spec.specs.Steps.{IsStepFrom}
use Rattle.edge_queries.specs.Places.{at_start, step_from}
use Rattle.graph_spec.specs.DataGraph.{DataGraph}
use Rattle.live_layers.specs.Grouped.{elements}
use Rattle.live_layers.specs.Items.{layer_graph}
use Rattle.live_layers.proofs.PickLaws.{picks}
use Rattle.live_layers.proofs.GivesLaws.{gives_out_all}
use Rattle.live_layers.proofs.layer.Layer.out_all.Goals as goal

pub returns : goal.returns
returns c = IfOk-weaker c.pick.result _ _
    (λ found is. subst (λ (G : DataGraph). ListsExactly step_cmp (IsStepFrom G c.args.from.now) found.items) c.self.view_is
    (picks (at_start c.args.from.now) (step_from)
    (IsStepFrom (layer_graph c.self.inside.edges c.self.inside.members) c.args.from.now)
    (elements (option_copied c.from.result))
    (gives_out_all (layer_graph c.self.inside.edges c.self.inside.members) (elements (option_copied c.from.result)) c.args.from.now c.from.ensures)
    step_cmp found.items is))
    c.pick.ensures
