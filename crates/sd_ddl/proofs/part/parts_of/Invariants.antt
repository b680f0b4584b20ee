use Rattle.std.proofs.Common.{◌≡◌, take}
use Rattle.sd_ddl.specs.Parts.{parts}
use Rattle.sd_ddl.proofs.part.parts_of.Given as goal

abbrev pub invariant-loop-statement : goal.invariant-loop-statement
invariant-loop-statement l = l.parts.items ≡ parts (take l.statement-index l.statements)
