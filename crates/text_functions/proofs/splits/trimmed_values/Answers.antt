use Rattle.std.proofs.Common.{[], subst, sym}
use Rattle.sd_value.specs.Gathered.{Gathered}
use Rattle.sd_value.proofs.Gathering.{gathered_none}
use Rattle.function_spec.specs.Functions.{IsFilledText}
use Rattle.function_spec.specs.Words.{trim}
use Rattle.text_functions.proofs.Parting.{part_more, gathered_whole}
use Rattle.text_functions.proofs.splits.trimmed_values.Goals as goal

pub loop-part-init : goal.loop-part-init
loop-part-init c = subst (Gathered (λ p v. IsFilledText (trim p.now) v) []) (sym c.new-values.ensures.items) (gathered_none (λ p v. IsFilledText (trim p.now) v))

pub loop-part-preserved : goal.loop-part-preserved
loop-part-preserved c = part_more (λ p v. IsFilledText (trim p.now) v) c.args.parts.now c.loop-part.part-index _ c.loop-part.values.items _ c.loop-part-test.true c.loop-part.invariant c.in_ok-push_trimmed.ensures

pub returns : goal.returns
returns c = gathered_whole (λ p v. IsFilledText (trim p.now) v) c.args.parts.now c.loop-part.part-index c.loop-part.values.items c.loop-part-test.false c.loop-part.invariant
