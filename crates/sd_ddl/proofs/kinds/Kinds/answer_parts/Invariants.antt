use Rattle.std.proofs.Common.{◌≡◌}
use Rattle.sd_ddl.specs.Kinds.{Name}
use Rattle.sd_ddl.specs.Tables.{told_of}
use Rattle.sd_ddl.proofs.kinds.Kinds.answer_parts.Given as goal

abbrev pub invariant-loop-part : goal.invariant-loop-part
invariant-loop-part l = (o a : Name) → told_of l.self o a ≡ told_of l.fn.self o a
