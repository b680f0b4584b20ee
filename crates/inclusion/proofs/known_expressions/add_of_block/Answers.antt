use Rattle.std.proofs.Common.{subst}
use Rattle.std.specs.Prelude.{map, All, Contains}
use Rattle.std.proofs.lemmas.Result.{IfOk-weaker}
use Rattle.std.proofs.lemmas.List.Elements.{All-map}
use Rattle.rpe.specs.Reading.{regex_of}
use Rattle.struql_ast.specs.Reading.{condition_of}
use Rattle.constraint_recheck.specs.Entails.{IsKnown}
use Rattle.inclusion.proofs.known_expressions.add_of_block.Goals as goal

pub returns-clause-there : goal.returns-clause-there
returns-clause-there c =
    let known = IsKnown (Contains (map regex_of c.add_of_conditions.new.all.items)) in
    IfOk-weaker c.add_of_conditions.result (λ u. All (λ x. known (condition_of x)) c.conditions.result.now) (λ u. All known c.args.block.now.chain.conditions)
    (λ u h. subst (All known) c.conditions.ensures (All-map known condition_of c.conditions.result.now h)) c.add_of_conditions.ensures.there
