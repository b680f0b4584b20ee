-- The numbers of templates and of blocks, and what is read of a function's template.
use Rattle.std.specs.Prelude.{◌≡◌, ℕ, suc, Bool, Option, Some, None, if◌then◌else◌, List, [], ◌∷◌}
use Rattle.graph_spec.specs.DataGraph.{Name}
use Rattle.query_spec.specs.Mentions.{same_name}
use Rattle.query_spec.specs.Query.{Body as Block}
use Rattle.tmpl.specs.Body.{Named, Body, TemplateFile}
use Rattle.edit_spec.specs.Footprint.{own_labels, other_labels, named_collections, has_embed, IsTemplateOf, IsFootprint}
use Rattle.site_spec.specs.Site.{Scope}
use Rattle.edit_touches.specs.declared.FootprintParts.{FootprintParts}
use Rattle.edit_touches.specs.Parts.{footprint_of}
use Rattle.edit_footprint.specs.declared.reads.Reads.{Reads}

-- the number of the first template of the name
abbrev pub number_of : Name → List Named → Option ℕ
number_of function [] = None
number_of function (n ∷ ns) = if same_name n.name function then Some n.number
    else number_of function ns

-- the numbers, from n on, of the blocks that pass
abbrev pub numbers_from : (Block → Bool) → ℕ → List Block → List ℕ
numbers_from test n [] = []
numbers_from test n (b ∷ bs) = if test b then n ∷ numbers_from test (suc n) bs
    else numbers_from test (suc n) bs

-- what is gathered is what the body reads
pub record ReadsOf (t : Body) (r : Reads) : Type 0 where
  pub embeds_same : r.embeds ≡ has_embed t
  pub own_same : r.own.items ≡ own_labels t
  pub others_same : r.others.items ≡ other_labels t
  pub collections_same : r.collections.items ≡ named_collections t

-- what is gathered is what the function's template reads
abbrev pub AreReads : TemplateFile → Name → Reads → Type 0
AreReads f function r = (t : Body) × IsTemplateOf f function t × ReadsOf t r

-- the parts are those of the function's footprint
abbrev pub AreParts : TemplateFile → Scope → Name → FootprintParts → Type 0
AreParts f q function p = (t : Body) × IsTemplateOf f function t × IsFootprint q function t
    (footprint_of p)
