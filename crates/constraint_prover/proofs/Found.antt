-- What the search finds, constraint by constraint.
use Rattle.std.proofs.Common.{◌≡◌, [], sym, ap, ◌∙◌}
use Rattle.std.specs.Prelude.{Bool, true, Option, Some, None, if◌then◌else◌}
use Rattle.sd_value.specs.Names.{Name}
use Rattle.site_spec.specs.Site.{Scope}
use Rattle.constraint_spec.specs.declared.Constraint.{Constraint}
use Rattle.constraint_spec.specs.declared.Constraint.TheVariants.{Only, Never, One}
use Rattle.constraint_spec.specs.Placed.{links_of, mentions_of}
use Rattle.constraint_spec.specs.Certificate.{Certificate}
use Rattle.constraint_recheck.specs.Entails.{Tests}
use Rattle.constraint_recheck.specs.Recheck.{may_carry, single, determined, each_may}
use Rattle.constraint_recheck.specs.Options.{for_each}
use Rattle.constraint_recheck.specs.Search.{find_shown, find_certificate}
use Rattle.query_links.specs.Links.{ends_at}

module _ (tests : Tests) (q : Scope) (constraint : Constraint) (found : Option Certificate) (f l label : Name) (b : Bool) where
  pub only_found : (h : Name) → constraint ≡ Only f l h → label ≡ l → b ≡ each_may tests q f label (ends_at (Some h)) → found ≡ (if b then Some [] else None) → found ≡ find_certificate tests q constraint
  only_found h is same p e =
      e ∙ (ap (λ t. if t then Some [] else None) (p ∙ ap (λ z. each_may tests q f z (ends_at (Some h))) same) ∙ ap (find_certificate tests q) (sym is))

  pub never_found : constraint ≡ Never f l → label ≡ l → b ≡ each_may tests q f label (ends_at None) → found ≡ (if b then Some [] else None) → found ≡ find_certificate tests q constraint
  never_found is same p e =
      e ∙ (ap (λ t. if t then Some [] else None) (p ∙ ap (λ z. each_may tests q f z (ends_at None)) same) ∙ ap (find_certificate tests q) (sym is))

  pub one_found : constraint ≡ One f l → label ≡ l → b ≡ single (may_carry tests q.version f label) determined (links_of q) → b ≡ true → found ≡ for_each (find_shown tests q l (λ k. true)) (mentions_of q f) → found ≡ find_certificate tests q constraint
  one_found is same p t e =
      let alone : single (may_carry tests q.version f l) determined (links_of q) ≡ true =
      sym (p ∙ ap (λ z. single (may_carry tests q.version f z) determined (links_of q)) same) ∙ t in
      e ∙ (ap (λ c. if c then for_each (find_shown tests q l (λ k. true)) (mentions_of q f) else None) (sym alone) ∙ ap (find_certificate tests q) (sym is))
