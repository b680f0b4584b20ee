use Rattle.std.proofs.Common.{◌≡◌, take}
use Rattle.std.specs.Prelude.{None, map}
use Rattle.struql_ast.specs.Reading.{condition_of}
use Rattle.counterexample_spec.specs.Values.{first_found, test_of}
use Rattle.refute_site.proofs.given.first_test.Given as goal

abbrev pub invariant-loop-condition : goal.invariant-loop-condition
invariant-loop-condition l = first_found (test_of l.name) (map condition_of (take l.condition-index l.conditions)) ≡ None
