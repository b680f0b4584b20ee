use Rattle.std.proofs.Common.{◌≡◌, ◌<◌, ℕ, get_or}
use Rattle.function_spec.specs.declared.Function.{Function}
use Rattle.function_names.specs.declared.TheConstants.{ALL}
use Rattle.function_names.specs.Names.{name_of}
use Rattle.function_names.proofs.named.Given as goal

abbrev pub invariant-loop-function : goal.invariant-loop-function
invariant-loop-function l = (k : ℕ) (d : Function) → k < l.function-index → l.text ≡ name_of (get_or ALL k d) → ⊥
