use Rattle.std.proofs.Common.{◌≡◌, ◌++◌, take}
use Rattle.std.specs.Prelude.{map}
use Rattle.std.specs.List.{flat_map}
use Rattle.struql_ast.specs.Reading.{collect_of}
use Rattle.lint_spec.specs.Mistakes.{target_functions}
use Rattle.site_lint.proofs.gathered.push_puts.Given as goal

abbrev pub invariant-loop-collect : goal.invariant-loop-collect
invariant-loop-collect l = l.found.items ≡ l.initial.found.items ++ flat_map (λ k. target_functions k.target) (map collect_of (take l.collect-index l.collects))
