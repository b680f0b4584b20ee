use Rattle.std.proofs.Common.{◌≡◌, take, drop}
use Rattle.sd_ddl.specs.Tables.{HasGivings}
use Rattle.sd_ddl.proofs.Conflicts.{Reached}
use Rattle.sd_ddl.proofs.conflict.first_conflict.Given as goal

abbrev pub invariant-loop-part : goal.invariant-loop-part
invariant-loop-part l =
    (l.count ≡ l.part-index) × HasGivings (take l.part-index l.parts) l.seen × Reached l.parts (take l.part-index l.parts) (drop l.part-index l.parts)
