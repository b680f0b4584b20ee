use Rattle.std.proofs.Common.{take}
use Rattle.inclusion.specs.Answers.{IsRow}
use Rattle.inclusion.proofs.table.row_of.Given as goal

abbrev pub invariant-loop-other : goal.invariant-loop-other
invariant-loop-other l = IsRow (take l.other-index l.all) l.one l.row.items
