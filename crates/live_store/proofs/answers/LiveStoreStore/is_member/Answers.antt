use Rattle.std.specs.Prelude.{◌↔◌, IsTrue}
use Rattle.std.proofs.Common.{subst}
use Rattle.graph_spec.specs.Steps.{IsMemberValue}
use Rattle.sd_graph.specs.Statement.{Building}
use Rattle.live_store.proofs.Moves.{member_moves}
use Rattle.live_store.proofs.Questions.{left_test}
use Rattle.live_store.proofs.answers.LiveStoreStore.is_member.Goals as goal

pub returns : goal.returns
returns c = subst (λ (b : Building). IsTrue c.is_left.result ↔ IsMemberValue b.graph c.args.collection.now c.args.value.now) c.self.view_is
    (left_test (member_moves c.self.inside.base c.self.inside.came c.self.inside.gone c.self.inside.nodes.keys _ c.self.invariant.layers
    c.args.collection.now c.args.value.now)
    _ _ _ _ c.is_member-base.ensures c.is_member-gone.ensures c.is_member-came.ensures c.is_left.ensures)
