use Rattle.std.proofs.Common.{arith}
use Rattle.struql_ast.specs.Reading.{condition_of}
use Rattle.counterexample_spec.specs.Values.{test_of}
use Rattle.refute_site.proofs.Found.{nothing_more, found_there}
use Rattle.refute_site.proofs.given.first_test.Goals as goal

pub loop-condition-preserved : goal.loop-condition-preserved
loop-condition-preserved c =
    nothing_more (test_of c.args.name.now) condition_of c.conditions-conditions.result.now c.loop-condition.condition-index c.condition-item.result (omega arith) c.condition-item.is c.loop-condition.invariant c.in_default.ensures

pub returns-in-Some : goal.returns-in-Some
returns-in-Some c =
    found_there (test_of c.args.name.now) condition_of c.conditions-conditions.result.now c.args.chain.now.conditions c.loop-condition.condition-index c.condition-item.result c.in-Some.test c.conditions-conditions.ensures (omega arith) c.condition-item.is c.loop-condition.invariant c.in-Some.ensures
