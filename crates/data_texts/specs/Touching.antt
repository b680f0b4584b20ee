-- Which edits touch the pages of which functions, as a test.
use Rattle.std.specs.Prelude.{◌↔◌, Bool, false, not, ◌&&◌, IsTrue, Option, Some, None}
use Rattle.graph_spec.specs.DataGraph.{DataGraph, Name}
use Rattle.site_spec.specs.Site.{Scope}
use Rattle.tmpl.specs.Body.{TemplateFile}
use Rattle.edit_spec.specs.declared.Edit.{Edit}
use Rattle.edit_footprint.specs.Stays.{TouchesPages}
use Rattle.data_texts.specs.Edits.{is_taken}

-- a test of whether an edit touches the footprint of a function
pub record Touching : Type 0 where
  pub touches : Edit → Scope → TemplateFile → Name → Bool
  pub exact : (e : Edit) (q : Scope) (f : TemplateFile) (function : Name)
      → IsTrue (touches e q f function) ↔ TouchesPages e q f function

-- the pages of the function surely stay: there is an edit that is taken, and it touches nothing on which they rest
abbrev pub spares : Touching → Option Edit → DataGraph → Scope → TemplateFile → Name → Bool
spares touching None G q f function = false
spares touching (Some e) G q f function =
    is_taken (Some e) G && not (touching.touches e q f function)
