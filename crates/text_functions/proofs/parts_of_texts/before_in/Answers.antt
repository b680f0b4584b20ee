use Rattle.std.proofs.Common.{subst}
use Rattle.function_spec.specs.Functions.{IsText}
use Rattle.text_functions.proofs.Found.{same_front}
use Rattle.text_functions.proofs.Telling.{told_as, text_as}
use Rattle.text_functions.proofs.parts_of_texts.before_in.Goals as goal

pub returns-in_default : goal.returns-in_default
returns-in_default c = λ v h. c.in_default.ensures (h.0, h.1, h.2.whole)

pub returns : goal.returns
returns c =
    let front = c.in-Some.front.now in
    let back = c.in-Some.field-0-1.now in
    told_as c.in_ok-value.value (text_as c.as_bytes.result.now front c.in_ok-value.value c.in_ok-value.ensures c.as_bytes.ensures.value)
    (λ v p. (front, back, c.in-Some.ensures, p))
    (λ v q. subst (λ t. IsText t v) (same_front c.args.part.now c.args.text.now q.0 q.1 front back q.2 c.in-Some.ensures) q.3)
