use Rattle.std.proofs.Common.{◌≡◌, Some, drop, string_bytes}
use Rattle.std.specs.Fmt.{option_append}
use Rattle.function_spec.specs.Functions.{joined}
use Rattle.text_functions.proofs.joins.joined.Given as goal

abbrev pub invariant-loop-value : goal.invariant-loop-value
invariant-loop-value l = option_append (Some (string_bytes l.text)) (joined (drop l.value-index l.values)) ≡ joined l.values
