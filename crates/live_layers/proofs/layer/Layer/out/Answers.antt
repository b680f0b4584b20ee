use Rattle.std.proofs.Common.{subst}
use Rattle.std.proofs.lemmas.Result.{IfOk-weaker}
use Rattle.std.specs.Option.{option_copied}
use Rattle.sd_value.specs.Ascending.{ListsExactly}
use Rattle.sd_value.specs.Order.{value_cmp}
use Rattle.edge_queries.specs.Places.{at_start_label}
use Rattle.graph_spec.specs.declared.Edge.{Edge}
use Rattle.graph_spec.specs.DataGraph.{DataGraph, HasEdge}
use Rattle.live_layers.specs.Grouped.{elements}
use Rattle.live_layers.specs.Items.{layer_graph}
use Rattle.live_layers.proofs.PickLaws.{picks}
use Rattle.live_layers.proofs.GivesLaws.{gives_out}
use Rattle.live_layers.proofs.layer.Layer.out.Goals as goal

pub returns : goal.returns
returns c = IfOk-weaker c.pick.result _ _
    (λ found is. subst (λ (G : DataGraph). ListsExactly value_cmp (HasEdge G c.args.from.now c.args.label.now) found.items) c.self.view_is
    (picks (at_start_label c.args.from.now c.args.label.now) (λ (e : Edge). e.to)
    (HasEdge (layer_graph c.self.inside.edges c.self.inside.members) c.args.from.now c.args.label.now)
    (elements (option_copied c.from.result))
    (gives_out (layer_graph c.self.inside.edges c.self.inside.members) (elements (option_copied c.from.result)) c.args.from.now c.from.ensures c.args.label.now)
    value_cmp found.items is))
    c.pick.ensures
