use Rattle.std.proofs.Common.{arith}
use Rattle.std.specs.Prelude.{map, Contains}
use Rattle.rpe.specs.Reading.{regex_of}
use Rattle.struql_ast.specs.Reading.{condition_of}
use Rattle.constraint_recheck.specs.Entails.{IsKnown}
use Rattle.inclusion.proofs.Kept.{known_kept, all_known_more, all_of_taken}
use Rattle.inclusion.proofs.known_expressions.add_of_conditions.Goals as goal

pub loop-condition-preserved : goal.loop-condition-preserved
loop-condition-preserved c = record {
  kept = λ r h. c.in_ok-add_of_condition.ensures.kept r (c.loop-condition.invariant.kept r h);
  there =
      all_known_more (λ all x. IsKnown (Contains (map regex_of all)) (condition_of x)) (λ old new k x. known_kept old new k (condition_of x)) c.loop-condition.all.items c.add_of_condition.new.all.items c.in_ok-add_of_condition.ensures.kept c.args.conditions.now c.loop-condition.condition-index c.condition-item.result
      (omega arith) c.condition-item.is c.loop-condition.invariant.there c.in_ok-add_of_condition.ensures.there;
}

pub returns-clause-there : goal.returns-clause-there
returns-clause-there c =
    all_of_taken (λ x. IsKnown (Contains (map regex_of c.loop-condition.all.items)) (condition_of x)) c.args.conditions.now c.loop-condition.condition-index (omega arith) c.loop-condition.invariant.there
