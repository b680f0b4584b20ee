use Rattle.std.proofs.Common.{arith}
use Rattle.struql_check.specs.Faults.{MentionFault}
use Rattle.struql_check.proofs.Firsts.{first_nil, first_step, first_end}
use Rattle.struql_check.proofs.passes.first_of_mentions.Goals as goal

pub loop-mention-init : goal.loop-mention-init
loop-mention-init c = first_nil (MentionFault c.args.levels.now)

pub loop-mention-preserved : goal.loop-mention-preserved
loop-mention-preserved c =
    rw c.earlier-first.ensures
    (first_step (MentionFault c.args.levels.now) c.args.mentions.now c.loop-mention.mention-index c.mention-item.result c.loop-mention.first _ (omega arith) c.mention-item.is c.loop-mention.invariant c.mention_fault.ensures)

pub returns : goal.returns
returns c = first_end (MentionFault c.args.levels.now) c.args.mentions.now c.loop-mention.mention-index c.loop-mention.first c.loop-mention-test.false c.loop-mention.invariant
