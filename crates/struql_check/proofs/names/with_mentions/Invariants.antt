use Rattle.std.proofs.Common.{List, ◌++◌, take}
use Rattle.struql_check.specs.Known.{AreNames}
use Rattle.struql_check.specs.declared.mentions.VariableUse.{VariableUse}
use Rattle.struql_check.proofs.names.with_mentions.Given as goal

abbrev pub invariant-loop-mention : goal.invariant-loop-mention
invariant-loop-mention l = (ms : List VariableUse) → AreNames ms l.before → AreNames (ms ++ take l.mention-index l.mentions) l.names
