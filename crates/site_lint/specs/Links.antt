-- What is known of the links of a site's query before its texts are judged.
use Rattle.std.specs.Prelude.{◌≡◌, ◌↔◌, ℕ, List, Contains}
use Rattle.sd_value.specs.Names.{Name, Label}
use Rattle.site_spec.specs.Site.{Scope}
use Rattle.constraint_spec.specs.Placed.{PlacedLink}
use Rattle.link_index.specs.declared.gathered.ArcLink.{ArcLink}
use Rattle.link_index.specs.Links.{quoted_links, arc_links, Carries}
use Rattle.link_index.specs.Found.{placed}
use Rattle.site_lint.specs.declared.links.SiteLinks.{SiteLinks}

-- the link may carry the label
abbrev pub ArcCarries : ℕ → Label → ArcLink → Type 0
ArcCarries version l a =
    Carries version a.function.now l (placed a.chain.now.conditions a.link.now)

module _ (q : Scope) where
  -- these are the quoted labels of links of these functions
  abbrev pub AreLabelsOf : List Name → List Label → Type 0
  AreLabelsOf functions labels =
      (l : Label) → Contains labels l
      ↔ ((f : Name) × Contains functions f × Contains (quoted_links q) (f, l))

  -- these are the functions of which a link has one of the labels, quoted
  abbrev pub AreQuotedBy : List Label → List Name → Type 0
  AreQuotedBy labels functions =
      (f : Name) → Contains functions f
      ↔ ((l : Label) × Contains labels l × Contains (quoted_links q) (f, l))

  -- a link of the function by a variable may carry the label
  abbrev pub HasArc : Name → Label → Type 0
  HasArc f l = (k : PlacedLink) × Contains (arc_links q) (f, k) × Carries q.version f l k

  -- these are the functions of which a link by a variable may carry one of the labels
  abbrev pub AreCarrying : List Label → List Name → Type 0
  AreCarrying labels functions =
      (f : Name) → Contains functions f ↔ ((l : Label) × Contains labels l × HasArc f l)

  -- the links are those of the query, where these functions are created and words go on by these labels
  pub record HasLinks (created : List Name) (further : List Label) (links : SiteLinks) : Type 0
    where
      pub index : links.index ≡ q
      pub created_labels : AreLabelsOf created links.created_labels
      pub quoted_on : AreQuotedBy further links.quoted_on
      pub arcs_on : AreCarrying further links.arcs_on
