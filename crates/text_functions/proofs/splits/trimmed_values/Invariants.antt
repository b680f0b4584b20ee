use Rattle.std.proofs.Common.{take}
use Rattle.sd_value.specs.Gathered.{Gathered}
use Rattle.function_spec.specs.Functions.{IsFilledText}
use Rattle.function_spec.specs.Words.{trim}
use Rattle.text_functions.proofs.splits.trimmed_values.Given as goal

abbrev pub invariant-loop-part : goal.invariant-loop-part
invariant-loop-part l = Gathered (λ p v. IsFilledText (trim p.now) v) (take l.part-index l.parts) l.values.items
