use Rattle.std.proofs.Common.{map, take}
use Rattle.struql_ast.specs.Reading.{operand_of}
use Rattle.site_build.proofs.RowReads.{ReadsTerm}
use Rattle.site_build.proofs.repeats.term_width.Given as goal

abbrev pub invariant-loop-operand : goal.invariant-loop-operand
invariant-loop-operand l = ReadsTerm l.variables l.width (map operand_of (take l.operand-index l.operand-items))
