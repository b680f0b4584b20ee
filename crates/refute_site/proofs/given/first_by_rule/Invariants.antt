use Rattle.std.proofs.Common.{◌≡◌, take}
use Rattle.std.specs.Prelude.{None, map}
use Rattle.query_spec.specs.Rows.{value_in}
use Rattle.struql_ast.specs.Reading.{condition_of}
use Rattle.counterexample_spec.specs.Values.{first_found}
use Rattle.refute_site.specs.Rules.{given_by}
use Rattle.refute_site.proofs.given.first_by_rule.Given as goal

abbrev pub invariant-loop-condition : goal.invariant-loop-condition
invariant-loop-condition l =
    first_found (given_by l.rule (value_in l.chain.variables l.known) l.name) (map condition_of (take l.condition-index l.conditions)) ≡ None
