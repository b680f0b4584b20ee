use Rattle.std.proofs.Common.{rules}
use Rattle.std.specs.Prelude.{◌-ℤ◌}
use Rattle.std.specs.Int.{w64}
use Rattle.std.specs.Int.RustNames.{FitsSigned}
use mir.Val.{to_z, of_z}
use Rattle.function_spec.specs.declared.Function.TheVariants.{Minus}
use Rattle.function_spec.specs.Functions.{Gives, OfNumbers, two, number_of}
use Rattle.text_functions.proofs.Telling.{told_none, told_some, of_both}
use Rattle.text_functions.proofs.arithmetic.minus.Goals as goal

pub returns-in_default : goal.returns-in_default
unfolding Gives
returns-in_default c = told_none (two number_of number_of c.args.values.now) (OfNumbers Minus) (search rules)

pub returns : goal.returns
unfolding Gives
returns c =
    let fa : FitsSigned w64 c.in-Some.a = search rules in
    let fb : FitsSigned w64 c.in-Some.b = search rules in
    told_some (two number_of number_of c.args.values.now) (c.in-Some.a, c.in-Some.b) (OfNumbers Minus) c.checked_value-value.result (search rules)
    (of_both (λ x y. x -ℤ y) c.in-Some.a c.in-Some.b c.checked_value-value.result fa fb (c.checked_value-value.ensures (to_z w64 (of_z w64 c.in-Some.a) -ℤ to_z w64 (of_z w64 c.in-Some.b)) c.checked_sub.ensures))
