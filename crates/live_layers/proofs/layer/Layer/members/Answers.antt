use Rattle.std.proofs.Common.{subst}
use Rattle.std.proofs.lemmas.Result.{IfOk-weaker}
use Rattle.std.specs.Option.{option_copied}
use Rattle.sd_value.specs.Ascending.{ListsExactly}
use Rattle.sd_value.specs.Order.{value_cmp}
use Rattle.graph_spec.specs.Steps.{IsMemberValue}
use Rattle.edge_queries.specs.Places.{at_collection}
use Rattle.graph_spec.specs.declared.Member.{Member}
use Rattle.graph_spec.specs.DataGraph.{DataGraph, node}
use Rattle.live_layers.specs.Grouped.{elements}
use Rattle.live_layers.specs.Items.{layer_graph}
use Rattle.live_layers.proofs.PickLaws.{picks}
use Rattle.live_layers.proofs.GivesLaws.{gives_members}
use Rattle.live_layers.proofs.layer.Layer.members.Goals as goal

pub returns : goal.returns
returns c = IfOk-weaker c.pick.result _ _
    (λ found is. subst (λ (G : DataGraph). ListsExactly value_cmp (IsMemberValue G c.args.collection.now) found.items) c.self.view_is
    (picks (at_collection c.args.collection.now) (λ (m : Member). node m.node)
    (IsMemberValue (layer_graph c.self.inside.edges c.self.inside.members) c.args.collection.now)
    (elements (option_copied c.collected-members.result))
    (gives_members (layer_graph c.self.inside.edges c.self.inside.members) (elements (option_copied c.collected-members.result)) c.args.collection.now c.collected-members.ensures)
    value_cmp found.items is))
    c.pick.ensures
