use Rattle.std.proofs.Common.{◌≡◌, ◌+◌, ◌<◌, ◌^◌, ◌++◌, length}
use Rattle.std.specs.Prelude.{map}
use Rattle.std.specs.Char.{to_ascii_uppercase}
use Rattle.lint_spec.specs.TemplateClaims.{tag_claims}
use Rattle.text_claims.proofs.tags.push_from.Given as goal

abbrev pub invariant-text : goal.invariant-text
invariant-text l = record {
  found : l.found.items ++ tag_claims l.place l.rest ≡ l.initial.found.items ++ tag_claims l.at l.text;
  capitals : l.high ≡ map to_ascii_uppercase l.rest;
  few : l.place + length l.rest < 2 ^ 64;
}

abbrev pub decreases-text : goal.decreases-text
decreases-text l = length l.rest
