use Rattle.std.proofs.Common.{◌≡◌, ◌++◌, length}
use Rattle.template_layouts.specs.Written.{acts, first_view}
use Rattle.template_layouts.proofs.written.acts.Given as goal

abbrev pub invariant-items : goal.invariant-items
invariant-items l = l.found.items ++ acts l.view l.left ≡ acts first_view l.items

abbrev pub decreases-items : goal.decreases-items
decreases-items l = length l.left
