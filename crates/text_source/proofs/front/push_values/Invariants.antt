use Rattle.std.proofs.Common.{◌≡◌, ◌++◌, length}
use Rattle.text_source.specs.Front.{stated}
use Rattle.text_source.specs.Values.{values_of}
use Rattle.text_source.proofs.front.push_values.Given as goal

abbrev pub invariant-values : goal.invariant-values
invariant-values l = l.said.items ++ stated l.at l.label l.rest ≡ l.initial.said.items ++ stated l.at l.label (values_of l.value)

abbrev pub decreases-values : goal.decreases-values
decreases-values l = length l.rest
