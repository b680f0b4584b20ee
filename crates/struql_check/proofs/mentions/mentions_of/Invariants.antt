use Rattle.std.proofs.Common.{◌≡◌, take}
use Rattle.std.specs.Prelude.{map}
use Rattle.std.specs.List.{flat_map}
use Rattle.struql_ast.specs.Written.{condition_written}
use Rattle.struql_check.specs.Scope.{mentions}
use Rattle.struql_check.proofs.mentions.mentions_of.Given as goal

abbrev pub invariant-loop-condition : goal.invariant-loop-condition
invariant-loop-condition l = l.found.items ≡ flat_map mentions (map condition_written (take l.condition-index l.conditions))
