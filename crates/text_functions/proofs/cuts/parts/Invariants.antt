use Rattle.std.proofs.Common.{◌++◌, List, ℕ, length, map}
use denote.Text.{Utf8}
use denote.Shadow.{shadow}
use Rattle.function_spec.specs.Cuts.{AreParts}
use Rattle.text_functions.proofs.cuts.parts.Given as goal

abbrev pub invariant-loop-part : goal.invariant-loop-part
invariant-loop-part l =
    shadow (Utf8 l.rest) × ((ps : List (List ℕ)) → AreParts l.by l.rest ps → AreParts l.by l.text (map (λ p. p.now) l.found.items ++ ps))

abbrev pub decreases-loop-part : goal.decreases-loop-part
decreases-loop-part l = length l.rest
