-- The text of a trial over a site that can be listed: each target has an outcome, and each look-up keeps something.
use Rattle.std.proofs.Common.{◌≡◌, ℕ, List, [], ◌∷◌, length, inl, inr, refl}
use Rattle.std.specs.Prelude.{Option, Some, None}
use Rattle.sd_value.specs.Names.{Name}
use Rattle.sd_value.specs.declared.Term.{Term}
use Rattle.tmpl.specs.Body.{TemplateFile}
use Rattle.page_spec.specs.declared.Outcome.{Outcome}
use Rattle.page_spec.specs.declared.Outcome.TheVariants.{Missing}
use Rattle.page_spec.specs.Site.{Site}
use Rattle.page_spec.specs.Page.{IsOutcome}
use Rattle.serving_spec.specs.declared.Hit.TheVariants.{Found, Miss}
use Rattle.serving_spec.specs.Looks.{Kept, KeptPage, LooksIn, kept_page, without, kept_with, hits_after}
use Rattle.trial_spec.specs.Asked.{none_kept, IsAsked, AreAsked, IsTrialText}
use Rattle.trial_spec.specs.Numbers.{counts_of, lines_of}
use Rattle.trial_spec.specs.Requests.{targets}
use Rattle.site_graphs.proofs.Decide.{yes, no}
use Rattle.outcome_laws.proofs.Listing.{IsListed}
use Rattle.outcome_laws.proofs.Targets.{term_or_none}
use Rattle.outcome_laws.proofs.Outcomes.{outcome_of}

module _ (site : Site) (listed : IsListed site) (templates : TemplateFile) (root : Option Name) where
  looked : (before : Kept) (t : Term) → (after : Kept) × LooksIn (IsOutcome site templates) before t after
  looked before t = by (kept_page t before.pages) refl
    where
      o : (o : Outcome) × IsOutcome site templates t o
      o = outcome_of site listed templates t

      by : (test : Option KeptPage) → kept_page t before.pages ≡ test
          → (after : Kept) × LooksIn (IsOutcome site templates) before t after
      by (Some page) is = (
        record {
          room = before.room;
          pages = page ∷ without t before.pages;
          hits = hits_after Found before.hits;
        },
        record { outcome = o.0; hit = Found; is = o.1; pages = (page, is, refl); hits = refl; room = refl },
      )
      by None is = (
        record {
          room = before.room;
          pages = kept_with before.room t o.0 before.pages;
          hits = hits_after Miss before.hits;
        },
        record { outcome = o.0; hit = Miss; is = o.1; pages = (is, refl); hits = refl; room = refl },
      )

  asked : (before : Kept) (target : List ℕ)
      → (o : Outcome) × (after : Kept) × IsAsked root site templates before target o after
  asked before target =
      elim (term_or_none root target) [
        | yes t ↦
            let o = outcome_of site listed templates t.0 in
            let k = looked before t.0 in (
              o.0,
              k.0,
              record {
                terms = t.0 ∷ [];
                is = inl (t.0, t.1, o.1);
                named = inl (t.0, t.1, refl);
                looked = (k.0, k.1, refl);
              },
            )
        | no none ↦ (
          Missing,
          before,
          record {
            terms = [];
            is = inr (λ t h. none (t, h), refl);
            named = inr (λ t h. none (t, h), refl);
            looked = refl;
          },
        )
      ]

  all_asked : (before : Kept) (asks : List (List ℕ))
      → (outcomes : List Outcome) × (after : Kept) × AreAsked root site templates before asks outcomes after
  all_asked before [] = ([], before, (refl, refl))
  all_asked before (target ∷ asks) =
      let first = asked before target in
      let rest = all_asked first.1 asks in
      (first.0 ∷ rest.0, rest.1, (first.0, rest.0, first.1, first.2, rest.2, refl))

  pub trial_text : (entries : ℕ) → (text : List ℕ) × IsTrialText root site templates entries text
  trial_text entries =
      let all = all_asked none_kept (targets entries) in (
        lines_of entries (length (targets entries)) (counts_of all.0) all.1.hits,
        record { outcomes = all.0; kept = all.1; asked = all.2; is = refl },
      )
