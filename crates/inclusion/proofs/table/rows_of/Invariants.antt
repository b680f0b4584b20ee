use Rattle.std.proofs.Common.{take}
use Rattle.std.specs.List.{AllZip}
use Rattle.inclusion.specs.Answers.{IsRow, bits_of}
use Rattle.inclusion.proofs.table.rows_of.Given as goal

abbrev pub invariant-loop-one : goal.invariant-loop-one
invariant-loop-one l = AllZip (IsRow l.all) (take l.one-index l.all) (bits_of l.rows.items)
