use Rattle.std.proofs.Common.{◌≡◌, [], ◌∷◌, ◌++◌, take}
use Rattle.std.specs.Prelude.{fold}
use Rattle.counterexample_spec.specs.Values.{value_after}
use Rattle.refute_site.specs.Patterns.{pattern_of}
use Rattle.refute_site.proofs.values.values_of.Given as goal

abbrev pub invariant-loop-variable : goal.invariant-loop-variable
invariant-loop-variable l =
    l.known.items ≡ fold (λ known v. known ++ value_after (pattern_of l.pattern) known v ∷ []) [] (take l.variable-index l.variables)
