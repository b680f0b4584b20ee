-- When a site, as its pages see it, meets an integrity constraint.
use Rattle.std.specs.Prelude.{◌≡◌, List, Contains}
use Rattle.sd_value.specs.declared.Value.{Value}
use Rattle.sd_value.specs.declared.Value.TheVariants.{Page}
use Rattle.sd_value.specs.declared.Term.{Term}
use Rattle.sd_value.specs.Names.{Label}
use Rattle.page_spec.specs.Site.{Site}
use Rattle.constraint_spec.specs.declared.Constraint.{Constraint}
use Rattle.constraint_spec.specs.Meets.{IsMet}

-- the site is as the constraint says
abbrev pub HoldsIn : Site → Constraint → Type 0
HoldsIn site = IsMet site.has site.edge

-- The terms are those of the site, and the labels have those of all links from pages. Each page from which or to which a
-- link leads is in the site.
pub record IsListed (site : Site) (terms : List Term) (labels : List Label) : Type 0 where
  pub sound : (t : Term) → Contains terms t → site.has t
  pub complete : (t : Term) → site.has t → Contains terms t
  pub labelled : (p : Term) (label : Label) (v : Value) → site.edge (Page p) label v
      → Contains labels label
  pub starts : (p : Term) (label : Label) (v : Value) → site.edge (Page p) label v → site.has p
  pub ends : (p : Term) (label : Label) (t : Term) → site.edge (Page p) label (Page t) → site.has t
