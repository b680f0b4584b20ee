use Rattle.std.proofs.Common.{◌≡◌, take}
use Rattle.std.specs.Prelude.{map}
use Rattle.struql_ast.specs.Reading.{operand_of}
use Rattle.query_parts.proofs.copied_operands.Given as goal

abbrev pub invariant-loop-item : goal.invariant-loop-item
invariant-loop-item l = map operand_of l.copies.items ≡ map operand_of (take l.item-index l.operands)
