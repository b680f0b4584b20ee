-- A constraint of the whole site, from what it says of each page.
use Rattle.std.proofs.Common.{◌≡◌, List}
use Rattle.std.specs.Prelude.{Contains}
use Rattle.sd_value.specs.declared.Term.{Term}
use Rattle.sd_value.specs.Names.{Label}
use Rattle.page_spec.specs.Site.{Site}
use Rattle.constraint_spec.specs.declared.Constraint.{Constraint}
use Rattle.constraint_spec.specs.declared.Constraint.TheVariants.{Reachable, Each, Only, Never, One}
use Rattle.constraint_report.specs.Here.{HoldsIn, IsListed}
use Rattle.constraint_report.specs.Links.{Agrees}

module _ (site : Site) (terms : List Term) (labels : List Label) (listed : IsListed site terms labels) where
  pub all_agree : (c : Constraint) → ((t : Term) → Contains terms t → Agrees site c t) → HoldsIn site c
  all_agree (Reachable f root) each = λ p has fn. each p (listed.complete p has) fn
  all_agree (Each f label h) each = λ p has fn. each p (listed.complete p has) fn
  all_agree (Only f label h) each = λ p v fn e. each p (listed.complete p (listed.starts p label v e)) fn v e
  all_agree (Never f label) each = λ p v fn e. each p (listed.complete p (listed.starts p label v e)) fn v e
  all_agree (One f label) each = λ p has fn. each p (listed.complete p has) fn

  pub each_agrees : (c : Constraint) → HoldsIn site c → (t : Term) → Contains terms t → Agrees site c t
  each_agrees (Reachable f root) holds t i = λ fn. holds t (listed.sound t i) fn
  each_agrees (Each f label h) holds t i = λ fn. holds t (listed.sound t i) fn
  each_agrees (Only f label h) holds t i = λ fn v e. holds t v fn e
  each_agrees (Never f label) holds t i = λ fn v e. holds t v fn e
  each_agrees (One f label) holds t i = λ fn. holds t (listed.sound t i) fn
