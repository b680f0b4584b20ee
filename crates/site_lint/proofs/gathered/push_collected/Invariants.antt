use Rattle.std.proofs.Common.{◌≡◌, ◌++◌, take}
use Rattle.std.specs.Prelude.{map}
use Rattle.struql_ast.specs.Reading.{collect_of}
use Rattle.site_lint.proofs.gathered.push_collected.Given as goal

abbrev pub invariant-loop-collect : goal.invariant-loop-collect
invariant-loop-collect l = l.found.items ≡ l.initial.found.items ++ map (λ k. k.collection) (map collect_of (take l.collect-index l.collects))
