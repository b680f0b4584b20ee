-- What a run over a trial's requests gives.
use Rattle.std.specs.Prelude.{◌≡◌, ℕ, List, Option}
use Rattle.tmpl.specs.Body.{TemplateFile}
use Rattle.page_spec.specs.declared.Outcome.{Outcome}
use Rattle.page_spec.specs.Site.{Site}
use Rattle.serving_spec.specs.Looks.{Kept}
use Rattle.trial_spec.specs.declared.Counts.{Counts}
use Rattle.trial_spec.specs.Asked.{AreAsked, none_kept}
use Rattle.trial_spec.specs.Numbers.{counts_of}

-- the targets were asked for, one after another, and these are the counts of their outcomes and the hits
pub record AreCounted (root : Option (List ℕ)) (s : Site) (f : TemplateFile)
    (targets : List (List ℕ)) (counts : Counts) (hits : ℕ) : Type 0 where
  pub outcomes : List Outcome
  pub kept : Kept
  pub asked : AreAsked root s f none_kept targets outcomes kept
  pub counted : counts ≡ counts_of outcomes
  pub found : hits ≡ kept.hits
