use Rattle.std.proofs.Common.{take}
use Rattle.sd_ddl.specs.Tables.{HasGivers}
use Rattle.sd_ddl.proofs.kinds.givers_of.Given as goal

abbrev pub invariant-loop-part : goal.invariant-loop-part
invariant-loop-part l = HasGivers (take l.part-index l.parts) l.givers
