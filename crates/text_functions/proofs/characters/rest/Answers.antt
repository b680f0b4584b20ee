use Rattle.std.proofs.Common.{◌≡◌, ◌++◌, subst, drop, chars, arith, ◌∙◌, sym, ap, length}
use Rattle.std.specs.Char.{encode_utf8}
use Rattle.text_functions.proofs.Passing.{passed, ended, all_passed}
use Rattle.text_functions.proofs.characters.rest.Goals as goal

pub returns-in-None : goal.returns-in-None
returns-in-None c =
    ended c.args.text.now c.loop-i.rest.now c.loop-i._i c.args.n c.loop-i.invariant.1
    (sym (ap length c.chars-characters.ensures.rest) ∙ c.in-None.ensures.steps.0.0) c.loop-i.auto._i-end

pub loop-i-preserved : goal.loop-i-preserved
loop-i-preserved c = (
  c.as_str-rest.utf8,
  passed c.args.text.now c.loop-i.rest.now c.as_str-rest.result.now c.loop-i._i c.in-Some.field-0 c.loop-i.invariant.0 c.loop-i.invariant.1
      (sym c.chars-characters.ensures.rest ∙ c.in-Some.ensures.steps.0 ∙ ap (λ t. encode_utf8 c.in-Some.field-0 ++ t) (sym c.as_str-rest.ensures)),
)

pub returns : goal.returns
returns c =
    let all : c.loop-i._i ≡ c.args.n = omega (arith, c.loop-i.auto._i-end, c.loop-i-test.false) in
    all_passed c.args.text.now c.loop-i.rest.now c.args.n c.loop-i.invariant.0 (subst (λ i. chars c.loop-i.rest.now ≡ drop i (chars c.args.text.now)) all c.loop-i.invariant.1)
