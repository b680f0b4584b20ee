-- What is known of a site before its texts are judged.
use Rattle.std.specs.Prelude.{◌≡◌, ◌↔◌, List, ◌++◌, Bool, IsTrue, Contains}
use Rattle.std.specs.List.{AllZip}
use Rattle.sd_value.specs.declared.Value.{Value}
use Rattle.sd_value.specs.Names.{Name}
use Rattle.graph_spec.specs.DataGraph.{DataGraph}
use Rattle.query_spec.specs.Query.{Body}
use Rattle.query_spec.specs.Rows.{IsRow}
use Rattle.tmpl.specs.Body.{TemplateFile}
use Rattle.query_blocks.specs.declared.QueryBlock.{QueryBlock}
use Rattle.lint_spec.specs.Mistakes.{created, collected, linked, put, presented, root_of}
use Rattle.site_lint.specs.declared.names.SiteNames.{SiteNames}

-- these are exactly the names of the list
abbrev pub AreNames : List Name → List Name → Type 0
AreNames set names = (n : Name) → Contains set n ↔ Contains names n

-- the names are those of these blocks and templates
pub record HasNames (bodies : List Body) (templates : TemplateFile) (names : SiteNames) : Type 0
  where
    pub of_creates : AreNames names.created (created bodies)
    pub of_collects : AreNames names.collected (collected bodies)
    pub of_reached : AreNames names.reached (linked bodies ++ put bodies)
    pub of_presented : AreNames names.presented (presented templates)
    pub of_root : names.root ≡ root_of bodies

-- each of the blocks that is marked has no row, and no other
abbrev pub AreWithoutRows : DataGraph → List QueryBlock → List Bool → Type 0
AreWithoutRows graph blocks marks =
    AllZip (λ b none. IsTrue none ↔ ((row : List Value) → IsRow graph b.chain row → ⊥)) blocks
    marks
