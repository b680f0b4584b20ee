use Rattle.std.proofs.Common.{sym, subst}
use Rattle.std.specs.Option.{option_copied}
use Rattle.sd_value.specs.Order.{value_cmp}
use Rattle.sd_value.specs.OrderLaws.{value_cmp-total, value_cmp-exact}
use Rattle.graph_spec.specs.Steps.{IsCountOf, IsMemberValue}
use Rattle.edge_queries.specs.Places.{at_collection}
use Rattle.graph_spec.specs.declared.Member.{Member}
use Rattle.graph_spec.specs.Orders.{member_cmp, member_cmp-total}
use Rattle.graph_spec.specs.DataGraph.{DataGraph, node}
use Rattle.live_layers.specs.Grouped.{elements}
use Rattle.live_layers.specs.Items.{layer_graph}
use Rattle.live_layers.proofs.PickLaws.{size_count}
use Rattle.live_layers.proofs.GivesLaws.{gives_members, member_placed}
use Rattle.live_layers.proofs.layer.Layer.members_of.Goals as goal

pub returns : goal.returns
returns c = subst (λ (G : DataGraph). IsCountOf value_cmp (IsMemberValue G c.args.collection.now) c.size.result) c.self.view_is
    (subst (IsCountOf value_cmp (IsMemberValue (layer_graph c.self.inside.edges c.self.inside.members) c.args.collection.now)) (sym c.size.ensures)
    (size_count (at_collection c.args.collection.now) (λ (m : Member). node m.node)
    (IsMemberValue (layer_graph c.self.inside.edges c.self.inside.members) c.args.collection.now)
    (elements (option_copied c.collected.result))
    (gives_members (layer_graph c.self.inside.edges c.self.inside.members) (elements (option_copied c.collected.result)) c.args.collection.now c.collected.ensures)
    member_cmp member_cmp-total c.collected.ensures.ascending value_cmp value_cmp-total value_cmp-exact
    (member_placed (layer_graph c.self.inside.edges c.self.inside.members) (elements (option_copied c.collected.result)) c.args.collection.now c.collected.ensures)))
