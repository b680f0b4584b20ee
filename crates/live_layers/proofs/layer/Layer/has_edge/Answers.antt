use Rattle.std.proofs.Common.{subst, nat_lt}
use Rattle.std.specs.Prelude.{◌↔◌, IsTrue}
use Rattle.std.specs.Option.{option_copied}
use Rattle.graph_spec.specs.DataGraph.{DataGraph, HasEdge}
use Rattle.live_layers.specs.Grouped.{elements}
use Rattle.live_layers.specs.Items.{layer_graph}
use Rattle.live_layers.proofs.GivesLaws.{has_edge_counted}
use Rattle.live_layers.proofs.layer.Layer.has_edge.Goals as goal

pub returns : goal.returns
returns c = subst (λ (G : DataGraph). IsTrue (nat_lt 0 c.count.result)
    ↔ HasEdge G c.args.from.now c.args.label.now c.args.to.now) c.self.view_is
    (has_edge_counted (layer_graph c.self.inside.edges c.self.inside.members) (elements (option_copied c.from.result))
    c.args.from.now c.from.ensures c.args.label.now c.args.to.now c.count.result c.count.ensures)
