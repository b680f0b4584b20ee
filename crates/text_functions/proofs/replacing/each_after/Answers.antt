use Rattle.std.proofs.Common.{◌+◌, length, string_bytes, arith, ap}
use Rattle.function_spec.specs.Functions.{longest}
use Rattle.text_functions.proofs.Texting.{each_more, each_over, each_all}
use Rattle.text_functions.proofs.replacing.each_after.Goals as goal

pub loop-part-preserved : goal.loop-part-preserved
loop-part-preserved c = each_more (λ p. p.now) c.args.by.now c.args.parts.now c.loop-part.part-index _ _ _ _ c.loop-part-test.true c.loop-part.invariant c.in_ok-push_str.ensures.bytes c.in_ok-push_str-2.ensures.bytes

pub returns-then-long-gt-LONGEST : goal.returns-then-long-gt-LONGEST
returns-then-long-gt-LONGEST c =
    let made = each_more (λ p. p.now) c.args.by.now c.args.parts.now c.loop-part.part-index _ _ _ _ c.loop-part-test.true c.loop-part.invariant c.in_ok-push_str.ensures.bytes c.in_ok-push_str-2.ensures.bytes in
    each_over (λ p. p.now) c.args.by.now c.args.parts.now (c.loop-part.part-index + 1) (string_bytes c.push_str-in-loop-part.new.self) longest made (omega (arith, ap length c.as_bytes.ensures.value))

pub returns : goal.returns
returns c = each_all (λ p. p.now) c.args.by.now c.args.parts.now c.loop-part.part-index (string_bytes c.loop-part.text) c.loop-part-test.false c.loop-part.invariant
