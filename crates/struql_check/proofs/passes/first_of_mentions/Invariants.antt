use Rattle.std.proofs.Common.{take}
use Rattle.struql_check.specs.Faults.{SomeIn, MentionFault}
use Rattle.struql_check.specs.First.{IsFirst}
use Rattle.struql_check.proofs.passes.first_of_mentions.Given as goal

abbrev pub invariant-loop-mention : goal.invariant-loop-mention
invariant-loop-mention l = IsFirst (SomeIn (MentionFault l.levels) (take l.mention-index l.mentions)) l.first
