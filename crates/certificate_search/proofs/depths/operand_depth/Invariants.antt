use Rattle.std.proofs.Common.{◌≡◌, take}
use Rattle.query_spec.specs.Mentions.{operand_names}
use Rattle.struql_ast.specs.Reading.{operand_of}
use Rattle.constraint_recheck.specs.Search.{depth}
use Rattle.certificate_search.proofs.depths.operand_depth.Given as goal

abbrev pub invariant-loop-place : goal.invariant-loop-place
invariant-loop-place l = l.depth ≡ depth (take l.place l.variables) (operand_names (operand_of l.operand))
