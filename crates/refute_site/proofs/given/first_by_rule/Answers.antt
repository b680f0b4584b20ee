use Rattle.std.proofs.Common.{arith}
use Rattle.query_spec.specs.Rows.{value_in}
use Rattle.struql_ast.specs.Reading.{condition_of}
use Rattle.refute_site.specs.Rules.{given_by}
use Rattle.refute_site.proofs.Found.{nothing_more, found_there}
use Rattle.refute_site.proofs.given.first_by_rule.Goals as goal

pub loop-condition-preserved : goal.loop-condition-preserved
loop-condition-preserved c =
    nothing_more (given_by c.args.rule (value_in c.args.chain.now.variables c.args.known.now) c.args.name.now) condition_of c.conditions-conditions.result.now c.loop-condition.condition-index c.condition-item.result (omega arith) c.condition-item.is c.loop-condition.invariant
    (rw (← c.variables-variables.ensures) c.in_default.ensures)

pub returns-in-Some : goal.returns-in-Some
returns-in-Some c =
    found_there (given_by c.args.rule (value_in c.args.chain.now.variables c.args.known.now) c.args.name.now) condition_of c.conditions-conditions.result.now c.args.chain.now.conditions c.loop-condition.condition-index c.condition-item.result c.in-Some.value.now c.conditions-conditions.ensures (omega arith) c.condition-item.is c.loop-condition.invariant
    (rw (← c.variables-variables.ensures) c.in-Some.ensures)
