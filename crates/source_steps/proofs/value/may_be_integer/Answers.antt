use Rattle.std.proofs.Common.{arith, inl, inr}
use Rattle.std.proofs.lemmas.Bool.{cases_Bool}
use Rattle.source_steps.proofs.Integers.{is_begun, is_short}
use Rattle.source_steps.proofs.value.may_be_integer.Goals as goal

pub returns-in-empty : goal.returns-in-empty
returns-in-empty c = λ is. absurd (omega (arith, (is_begun c.args.field.now is).0, c.in-empty.len_below))

pub returns-else-first-eq45 : goal.returns-else-first-eq45
returns-else-first-eq45 c = λ is. elim (cases_Bool c.is_ascii_digit.result) [
  | inl is_digit ↦ is_digit
  | inr none ↦
      let other = rw none at c.is_ascii_digit.ensures.cases in
      absurd (elim (is_begun c.args.field.now is).1 [
        | inl minus ↦ c.if-first-eq45.false minus
        | inr digit ↦ omega (arith, digit.0, digit.1, other)
      ])
]

pub returns-else-field-le20 : goal.returns-else-field-le20
returns-else-field-le20 c = λ is. absurd (omega (arith, is_short c.args.field.now is, c.if-field-le20.false))
