use Rattle.std.proofs.Common.{subst, nat_lt}
use Rattle.std.specs.Prelude.{◌↔◌, IsTrue}
use Rattle.std.specs.Option.{option_copied}
use Rattle.graph_spec.specs.DataGraph.{DataGraph}
use Rattle.graph_spec.specs.Steps.{IsMemberValue}
use Rattle.live_layers.specs.Grouped.{elements}
use Rattle.live_layers.specs.Items.{layer_graph}
use Rattle.live_layers.proofs.GivesLaws.{is_member_counted}
use Rattle.live_layers.proofs.layer.Layer.is_member.Goals as goal

pub returns : goal.returns
returns c = subst (λ (G : DataGraph). IsTrue (nat_lt 0 c.count.result)
    ↔ IsMemberValue G c.args.collection.now c.args.value.now) c.self.view_is
    (is_member_counted (layer_graph c.self.inside.edges c.self.inside.members)
    (elements (option_copied c.collected-members.result)) c.args.collection.now c.collected-members.ensures
    c.args.value.now c.count.result c.count.ensures)
