use Rattle.std.specs.Prelude.{◌↔◌, IsTrue}
use Rattle.std.proofs.Common.{subst}
use Rattle.sd_graph.specs.Statement.{Building}
use Rattle.live_layers.specs.Items.{HasItem}
use Rattle.live_store.proofs.Moves.{item_moves}
use Rattle.live_store.proofs.Questions.{left_test}
use Rattle.live_store.proofs.live.LiveStore.has_item.Goals as goal

pub returns : goal.returns
returns c = subst (λ (b : Building). IsTrue c.is_left.result ↔ HasItem b.graph c.args.edit.now) c.self.view_is
    (left_test (item_moves c.self.inside.base c.self.inside.came c.self.inside.gone c.self.inside.nodes.keys _
    c.self.invariant.layers c.args.edit.now)
    _ _ _ _ c.item_is_in-base.ensures c.has_item-gone.ensures c.has_item-came.ensures c.is_left.ensures)
