use Rattle.std.proofs.Common.{◌≡◌, drop}
use Rattle.std.specs.Prelude.{map}
use Rattle.struql_ast.specs.Reading.{operand_of}
use Rattle.query_parts.specs.Same.{same_list, same_operand}
use Rattle.query_parts.proofs.equality.same_args.Given as goal

abbrev pub invariant-loop-place : goal.invariant-loop-place
invariant-loop-place l =
    same_list same_operand (map operand_of (drop l.place l.args)) (map operand_of (drop l.place l.others))
    ≡ same_list same_operand (map operand_of l.args) (map operand_of l.others)
