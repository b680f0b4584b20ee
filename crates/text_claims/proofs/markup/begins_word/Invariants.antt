use Rattle.std.proofs.Common.{◌≡◌, length}
use Rattle.lint_spec.specs.Markup.{begins_word}
use Rattle.text_claims.proofs.markup.begins_word.Given as goal

abbrev pub invariant-word : goal.invariant-word
invariant-word l = begins_word l.left l.rest ≡ begins_word l.word l.bytes

abbrev pub decreases-word : goal.decreases-word
decreases-word l = length l.left
