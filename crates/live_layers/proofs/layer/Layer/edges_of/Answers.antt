use Rattle.std.proofs.Common.{sym, subst}
use Rattle.std.specs.Option.{option_copied}
use Rattle.graph_spec.specs.Steps.{IsCountOf, IsLabelled}
use Rattle.edge_queries.specs.Places.{at_label}
use Rattle.graph_spec.specs.declared.Edge.{Edge}
use Rattle.graph_spec.specs.Orders.{edge_cmp, edge_cmp-total, edge_cmp-exact}
use Rattle.graph_spec.specs.DataGraph.{DataGraph}
use Rattle.live_layers.specs.Grouped.{elements}
use Rattle.live_layers.specs.Items.{layer_graph}
use Rattle.live_layers.proofs.PickLaws.{size_count}
use Rattle.live_layers.proofs.GivesLaws.{gives_labelled, labelled_placed}
use Rattle.live_layers.proofs.layer.Layer.edges_of.Goals as goal

pub returns : goal.returns
returns c = subst (λ (G : DataGraph). IsCountOf edge_cmp (IsLabelled G c.args.label.now) c.size.result) c.self.view_is
    (subst (IsCountOf edge_cmp (IsLabelled (layer_graph c.self.inside.edges c.self.inside.members) c.args.label.now)) (sym c.size.ensures)
    (size_count (at_label c.args.label.now) (λ (e : Edge). e)
    (IsLabelled (layer_graph c.self.inside.edges c.self.inside.members) c.args.label.now)
    (elements (option_copied c.labelled.result))
    (gives_labelled (layer_graph c.self.inside.edges c.self.inside.members) (elements (option_copied c.labelled.result)) c.args.label.now c.labelled.ensures)
    edge_cmp edge_cmp-total c.labelled.ensures.ascending edge_cmp edge_cmp-total edge_cmp-exact
    (labelled_placed (layer_graph c.self.inside.edges c.self.inside.members) (elements (option_copied c.labelled.result)) c.args.label.now c.labelled.ensures)))
