use Rattle.std.proofs.Common.{◌≡◌, take}
use Rattle.query_spec.specs.Mentions.{names}
use Rattle.struql_ast.specs.Reading.{condition_of}
use Rattle.constraint_recheck.specs.Search.{depth}
use Rattle.certificate_search.proofs.depths.condition_depth.Given as goal

abbrev pub invariant-loop-place : goal.invariant-loop-place
invariant-loop-place l = l.depth ≡ depth (take l.place l.variables) (names (condition_of l.condition))
