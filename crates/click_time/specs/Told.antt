-- That what is known is true of the site.
use Rattle.std.specs.Prelude.{◌↔◌, ℕ, List, Contains, IfSome, IsTrue, MatchOption, Option, Bool}
use Rattle.std.specs.declared.vec.Vec.{Vec}
use Rattle.std.specs.declared.alloc.Global.{Global}
use Rattle.sd_value.specs.declared.Term.{Term}
use Rattle.sd_value.specs.declared.Value.{Value}
use Rattle.sd_value.specs.Order.{value_cmp}
use Rattle.sd_value.specs.Ascending.{ListsExactly}
use Rattle.graph_spec.specs.DataGraph.{DataGraph, Name}
use Rattle.tmpl.specs.Body.{TemplateFile}
use Rattle.page_spec.specs.Pieces.{HasTemplate}
use Rattle.site_spec.specs.Site.{Scope, InSite, SiteEdge, Collected}
use Rattle.weight_spec.specs.Site.{site_of}

abbrev pub AreTerms : DataGraph → Scope → List (Term × Option Bool) → Type 0
AreTerms G q entries =
    (e : Term × Option Bool) → Contains entries e → IfSome e.1 (λ b. IsTrue b ↔ InSite G q e.0)

abbrev pub AreEnds : DataGraph → Scope → List ((Value × Name) × Option (Vec Value Global)) → Type 0
AreEnds G q entries =
    (e : (Value × Name) × Option (Vec Value Global)) → Contains entries e
    → IfSome e.1 (λ vs. ListsExactly value_cmp (SiteEdge G q e.0.0 e.0.1) vs.items)

abbrev pub AreGathered : DataGraph → Scope → List (Name × Option (Vec Value Global)) → Type 0
AreGathered G q entries =
    (e : Name × Option (Vec Value Global)) → Contains entries e
    → IfSome e.1 (λ vs. ListsExactly value_cmp (Collected G q e.0) vs.items)

-- the number, if there is one, is the value's
abbrev pub Numbers : DataGraph → TemplateFile → Value → Option ℕ → Type 0
Numbers G f v o =
    MatchOption o ((k : ℕ) (q : Scope) → HasTemplate (site_of G q) f v k → ⊥)
    (λ k. (q : Scope) → HasTemplate (site_of G q) f v k)

abbrev pub AreNumbers : DataGraph → TemplateFile → List (Value × Option (Option ℕ)) → Type 0
AreNumbers G f entries =
    (e : Value × Option (Option ℕ)) → Contains entries e → IfSome e.1 (Numbers G f e.0)
