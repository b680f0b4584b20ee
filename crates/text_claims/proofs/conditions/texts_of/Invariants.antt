use Rattle.std.proofs.Common.{◌≡◌, take}
use Rattle.std.specs.List.{flat_map}
use Rattle.lint_spec.specs.QueryClaims.{text_of}
use Rattle.text_claims.proofs.conditions.texts_of.Given as goal

abbrev pub invariant-loop-value : goal.invariant-loop-value
invariant-loop-value l = l.found.items ≡ flat_map text_of (take l.value-index l.values)
