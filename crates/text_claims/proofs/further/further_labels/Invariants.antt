use Rattle.std.proofs.Common.{◌≡◌, ◌++◌, length}
use Rattle.lint_spec.specs.TemplateClaims.{further_labels}
use Rattle.text_claims.proofs.further.further_labels.Given as goal

abbrev pub invariant-items : goal.invariant-items
invariant-items l = l.found.items ++ further_labels l.rest ≡ further_labels l.items

abbrev pub decreases-items : goal.decreases-items
decreases-items l = length l.rest
