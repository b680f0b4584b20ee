use Rattle.std.proofs.Common.{take}
use Rattle.std.specs.Prelude.{map, All, Contains}
use Rattle.rpe.specs.Reading.{regex_of}
use Rattle.struql_ast.specs.Reading.{condition_of}
use Rattle.constraint_recheck.specs.Entails.{IsKnown}
use Rattle.inclusion.specs.Known.{Keeps}
use Rattle.inclusion.proofs.known_expressions.add_of_conditions.Given as goal

abbrev pub invariant-loop-condition : goal.invariant-loop-condition
invariant-loop-condition l = record {
  kept : Keeps l.initial.all.items l.all.items;
  there : All (λ c. IsKnown (Contains (map regex_of l.all.items)) (condition_of c)) (take l.condition-index l.conditions);
}
