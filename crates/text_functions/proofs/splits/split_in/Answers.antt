use Rattle.std.proofs.Common.{subst}
use Rattle.sd_value.specs.Gathered.{Gathered}
use Rattle.function_spec.specs.Functions.{IsFilledText}
use Rattle.function_spec.specs.Words.{trim}
use Rattle.text_functions.proofs.Parting.{parts_listed}
use Rattle.text_functions.proofs.splits.split_in.Goals as goal

pub returns : goal.returns
returns c =
    parts_listed (λ p. p.now) c.args.part.now c.args.text.now c.in_ok-found.found.items c.in_ok-values.values.items _ c.in_ok-found.ensures
    (subst (λ f. Gathered (λ p v. IsFilledText (trim p.now) v) f c.in_ok-values.values.items) c.as_slice.ensures.value c.in_ok-values.ensures) c.sort_and_dedup.ensures
