use Rattle.std.proofs.Common.{ap, ◌∙◌, refl}
use Rattle.std.specs.Str.Parse.{without_leading_sign}
use Rattle.text_functions.proofs.Marks.{alone_none, whole_none, part_none}
use Rattle.text_functions.proofs.decimals.digits.Goals as goal

pub returns-then-not-is_numeral : goal.returns-then-not-is_numeral
returns-then-not-is_numeral c =
    alone_none c.args.mark.now c.args.text.now c.without_sign-alone.result.now c.in_default.ensures
    (c.without_sign-alone.ensures ∙ ap without_leading_sign c.as_bytes.ensures.value) c.if-not-is_numeral.ensures

pub returns-then-not-is_numeral-2 : goal.returns-then-not-is_numeral-2
returns-then-not-is_numeral-2 c =
    whole_none c.args.mark.now c.args.text.now c.in-Some.front.now c.in-Some.back.now c.requires c.in-Some.ensures c.without_sign-whole.result.now c.in-Some.back.now
    (c.without_sign-whole.ensures ∙ ap without_leading_sign c.as_bytes-2.ensures.value) refl c.if-not-is_numeral-2.ensures

pub returns-then-not-is_numeral-3 : goal.returns-then-not-is_numeral-3
returns-then-not-is_numeral-3 c =
    part_none c.args.mark.now c.args.text.now c.in-Some.front.now c.in-Some.back.now c.requires c.in-Some.ensures c.without_sign-whole.result.now c.as_bytes-part.result.now
    (c.without_sign-whole.ensures ∙ ap without_leading_sign c.as_bytes-2.ensures.value) c.as_bytes-part.ensures.value c.if-not-is_numeral-3.ensures
