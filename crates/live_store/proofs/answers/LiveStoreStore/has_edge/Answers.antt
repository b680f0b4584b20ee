use Rattle.std.specs.Prelude.{◌↔◌, IsTrue}
use Rattle.std.proofs.Common.{subst}
use Rattle.graph_spec.specs.DataGraph.{HasEdge}
use Rattle.sd_graph.specs.Statement.{Building}
use Rattle.live_store.proofs.Moves.{edge_moves}
use Rattle.live_store.proofs.Questions.{left_test}
use Rattle.live_store.proofs.answers.LiveStoreStore.has_edge.Goals as goal

pub returns : goal.returns
returns c = subst (λ (b : Building). IsTrue c.is_left.result ↔ HasEdge b.graph c.args.from.now c.args.label.now c.args.to.now) c.self.view_is
    (left_test (edge_moves c.self.inside.base c.self.inside.came c.self.inside.gone c.self.inside.nodes.keys _ c.self.invariant.layers
    c.args.from.now c.args.label.now c.args.to.now)
    _ _ _ _ c.has_edge-base.ensures c.has_edge-gone.ensures c.has_edge-came.ensures c.is_left.ensures)
