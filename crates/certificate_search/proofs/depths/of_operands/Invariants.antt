use Rattle.std.proofs.Common.{◌≡◌, take}
use Rattle.std.specs.Prelude.{map}
use Rattle.struql_ast.specs.Reading.{operand_of}
use Rattle.certificate_search.specs.LinkDepths.{operand_depths}
use Rattle.certificate_search.proofs.depths.of_operands.Given as goal

abbrev pub invariant-loop-operand : goal.invariant-loop-operand
invariant-loop-operand l = l.depths.items ≡ operand_depths l.variables (map operand_of (take l.operand-index l.operands))
