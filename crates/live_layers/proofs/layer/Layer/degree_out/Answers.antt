use Rattle.std.proofs.Common.{sym, subst}
use Rattle.std.specs.Option.{option_copied}
use Rattle.graph_spec.specs.Steps.{IsCountOf, IsStepFrom}
use Rattle.edge_queries.specs.Places.{at_start, step_from}
use Rattle.graph_spec.specs.Orders.{edge_cmp, edge_cmp-total, step_cmp, step_cmp-total, step_cmp-exact}
use Rattle.graph_spec.specs.DataGraph.{DataGraph}
use Rattle.live_layers.specs.Grouped.{elements}
use Rattle.live_layers.specs.Items.{layer_graph}
use Rattle.live_layers.proofs.PickLaws.{size_count}
use Rattle.live_layers.proofs.GivesLaws.{gives_out_all, from_placed}
use Rattle.live_layers.proofs.layer.Layer.degree_out.Goals as goal

pub returns : goal.returns
returns c = subst (λ (G : DataGraph). IsCountOf step_cmp (IsStepFrom G c.args.from.now) c.size.result) c.self.view_is
    (subst (IsCountOf step_cmp (IsStepFrom (layer_graph c.self.inside.edges c.self.inside.members) c.args.from.now)) (sym c.size.ensures)
    (size_count (at_start c.args.from.now) (step_from)
    (IsStepFrom (layer_graph c.self.inside.edges c.self.inside.members) c.args.from.now)
    (elements (option_copied c.from.result))
    (gives_out_all (layer_graph c.self.inside.edges c.self.inside.members) (elements (option_copied c.from.result)) c.args.from.now c.from.ensures)
    edge_cmp edge_cmp-total c.from.ensures.ascending step_cmp step_cmp-total step_cmp-exact
    (from_placed (layer_graph c.self.inside.edges c.self.inside.members) (elements (option_copied c.from.result)) c.args.from.now c.from.ensures)))
