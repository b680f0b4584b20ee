use Rattle.std.proofs.Common.{◌≡◌, ◌++◌, take, map}
use Rattle.sd_ddl.specs.Parts.{kind_part}
use Rattle.sd_ddl.proofs.part.push_kinds.Given as goal

abbrev pub invariant-loop-entry : goal.invariant-loop-entry
invariant-loop-entry l = l.parts.items ≡ l.fn.parts.items ++ map (kind_part l.collection) (take l.entry-index l.entries)
