use Rattle.std.proofs.Common.{◌≡◌, length}
use Rattle.lint_spec.specs.Markup.{after_text}
use Rattle.text_claims.proofs.markup.after_text.Given as goal

abbrev pub invariant-text : goal.invariant-text
invariant-text l = after_text l.here l.rest ≡ after_text l.fn.place l.fn.text

abbrev pub decreases-text : goal.decreases-text
decreases-text l = length l.rest
