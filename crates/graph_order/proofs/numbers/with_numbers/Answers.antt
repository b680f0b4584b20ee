use Rattle.std.proofs.Common.{◌≡◌, ◌∙◌, List, ◌∷◌, [], ◌++◌, take}
use Rattle.graph_order.specs.Numbers.{numbers_from}
use Rattle.graph_order.proofs.ByNode.{numbers_more}
use Rattle.graph_order.proofs.numbers.with_numbers.Goals as goal

pub loop-number-preserved : goal.loop-number-preserved
loop-number-preserved c =
    c.in_ok-push.ensures.items
    ∙ (λ i. c.loop-number.invariant i ++ record { node = c.in_ok-node.ensures i; number = c.loop-number.number } ∷ [])
    ∙ numbers_more c.args.names.now c.loop-number.number c.index-names-number.result c.loop-number-test.true c.index-names-number.is
