use Rattle.std.proofs.Common.{rules, ◌≡◌, pos, None}
use Rattle.std.specs.Int.{w64}
use Rattle.std.specs.Int.RustNames.{FitsSigned}
use mir.Val.{to_z, of_z}
use Rattle.function_spec.specs.declared.Function.TheVariants.{Mod}
use Rattle.function_spec.specs.Functions.{Gives, OfNumbers, two, number_of, IsInt}
use Rattle.function_spec.specs.Numbers.{remainder}
use Rattle.text_functions.proofs.Telling.{told_none, told_some, of_both, with_yes}
use Rattle.text_functions.proofs.arithmetic.modulo.Goals as goal

pub returns-in_default : goal.returns-in_default
unfolding Gives
returns-in_default c = told_none (two number_of number_of c.args.values.now) (OfNumbers Mod) (search rules)

pub returns-then-b-eq0 : goal.returns-then-b-eq0
unfolding Gives
returns-then-b-eq0 c =
    let zero : c.in-Some.b ≡ pos 0 = search rules in
    told_some (two number_of number_of c.args.values.now) (c.in-Some.a, c.in-Some.b) (OfNumbers Mod) None (search rules) (λ v q. q.0 zero)

pub returns : goal.returns
unfolding Gives
returns c =
    let fa : FitsSigned w64 c.in-Some.a = search rules in
    let fb : FitsSigned w64 c.in-Some.b = search rules in
    let nonzero : c.in-Some.b ≡ pos 0 → ⊥ = search rules in
    told_some (two number_of number_of c.args.values.now) (c.in-Some.a, c.in-Some.b) (OfNumbers Mod) c.checked_value-value.result (search rules)
    (with_yes (c.in-Some.b ≡ pos 0 → ⊥) (IsInt (remainder c.in-Some.a c.in-Some.b)) c.checked_value-value.result nonzero
    (of_both remainder c.in-Some.a c.in-Some.b c.checked_value-value.result fa fb (c.checked_value-value.ensures (remainder (to_z w64 (of_z w64 c.in-Some.a)) (to_z w64 (of_z w64 c.in-Some.b))) c.remainder.ensures)))
