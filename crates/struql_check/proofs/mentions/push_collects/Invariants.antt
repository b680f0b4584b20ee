use Rattle.std.proofs.Common.{◌≡◌, ◌++◌, take}
use Rattle.std.specs.Prelude.{map}
use Rattle.std.specs.List.{flat_map}
use Rattle.struql_ast.specs.Written.{collect_written}
use Rattle.struql_check.specs.Scope.{collect_mentions}
use Rattle.struql_check.proofs.mentions.push_collects.Given as goal

abbrev pub invariant-loop-collect : goal.invariant-loop-collect
invariant-loop-collect l = l.found.items ≡ l.initial.found.items ++ flat_map collect_mentions (map collect_written (take l.collect-index l.collects))
