use Rattle.std.proofs.Common.{take}
use Rattle.sd_ddl.specs.Tables.{HasGivings}
use Rattle.sd_ddl.proofs.kinds.givings_of.Given as goal

abbrev pub invariant-loop-part : goal.invariant-loop-part
invariant-loop-part l = HasGivings (take l.part-index l.parts) l.givings
