use Rattle.std.proofs.Common.{◌∙◌}
use Rattle.sd_ddl.proofs.kinds.Kinds.answer_parts.Goals as goal

pub loop-part-preserved : goal.loop-part-preserved
loop-part-preserved c = λ o a. c.in_ok-answer_part.ensures o a ∙ c.loop-part.invariant o a
