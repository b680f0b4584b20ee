use Rattle.std.proofs.Common.{◌≡◌, ◌++◌, length}
use Rattle.std.specs.Prelude.{All}
use Rattle.template_items.specs.Scanning.{EndsWithin}
use Rattle.text_claims.specs.Limits.{text_end}
use Rattle.lint_spec.specs.TemplateClaims.{items_claims, template_claims}
use Rattle.text_claims.proofs.claims.claims_of_templates.Given as goal

abbrev pub invariant-items : goal.invariant-items
invariant-items l = record {
  found : l.found.items ++ items_claims l.before l.rest ≡ template_claims l.items;
  within : All (EndsWithin text_end) l.rest;
}

abbrev pub decreases-items : goal.decreases-items
decreases-items l = length l.rest
