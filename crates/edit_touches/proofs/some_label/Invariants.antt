use Rattle.std.proofs.Common.{◌≡◌, drop}
use Rattle.std.specs.List.{list_any}
use Rattle.edit_touches.specs.Tests.{is_of_label}
use Rattle.edit_touches.proofs.some_label.Given as goal

abbrev pub invariant-loop-label : goal.invariant-loop-label
invariant-loop-label l = list_any (is_of_label l.edit) (drop l.label-index l.labels) ≡ list_any (is_of_label l.edit)
    l.labels
