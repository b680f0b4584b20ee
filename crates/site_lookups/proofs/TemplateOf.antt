-- The template of a page and of a node.
use Rattle.std.proofs.Common.{◌≡◌, ℕ, List, map, sym, subst}
use Rattle.std.specs.Prelude.{Option, Some, None}
use Rattle.std.specs.Option.{MatchOption}
use Rattle.sd_value.specs.declared.Datum.TheVariants.{Node}
use Rattle.sd_value.specs.declared.Value.{Value}
use Rattle.sd_value.specs.declared.Value.TheVariants.{Data, Page}
use Rattle.sd_value.specs.declared.Term.{Term}
use Rattle.graph_spec.specs.DataGraph.{DataGraph, Name, HasMember}
use Rattle.tmpl.specs.declared.NamedTemplate.{NamedTemplate}
use Rattle.tmpl.specs.Body.{Named, TemplateFile}
use Rattle.tmpl.specs.Reading.{named_of}
use Rattle.page_spec.specs.Pieces.{First, HasTemplate}
use Rattle.site_spec.specs.Site.{Scope}
use Rattle.weight_spec.specs.Site.{site_of}

-- the number, if there is one, is the value's
abbrev pub Numbers : DataGraph → TemplateFile → Value → Option ℕ → Type 0
Numbers G f v o = MatchOption o ((k : ℕ) (q : Scope) → HasTemplate (site_of G q) f v k → ⊥) (λ k. (q : Scope) → HasTemplate (site_of G q) f v k)

pub of_page : (G : DataGraph) (f : TemplateFile) (names : List NamedTemplate) (p : Term) (v : Value) (o : Option ℕ) → v ≡ Page p → map named_of names ≡ f.functions
    → MatchOption o ((k : ℕ) → First (λ name. name ≡ p.function) (map named_of names) k → ⊥) (λ k. First (λ name. name ≡ p.function) (map named_of names) k) → Numbers G f v o
of_page G f names p v None at e m = λ k q h. m k (subst (λ (ns : List Named). First (λ name. name ≡ p.function) ns k) (sym e) (subst (λ (w : Value). HasTemplate (site_of G q) f w k) at h))
of_page G f names p v (Some k) at e m = λ q. subst (λ (w : Value). HasTemplate (site_of G q) f w k) (sym at) (subst (λ (ns : List Named). First (λ name. name ≡ p.function) ns k) e m)

pub of_node : (G : DataGraph) (f : TemplateFile) (names : List NamedTemplate) (n : Name) (v : Value) (o : Option ℕ) → v ≡ Data (Node n) → map named_of names ≡ f.collections
    → MatchOption o ((k : ℕ) → First (λ name. HasMember G name n) (map named_of names) k → ⊥) (λ k. First (λ name. HasMember G name n) (map named_of names) k) → Numbers G f v o
of_node G f names n v None at e m = λ k q h. m k (subst (λ (ns : List Named). First (λ name. HasMember G name n) ns k) (sym e) (subst (λ (w : Value). HasTemplate (site_of G q) f w k) at h))
of_node G f names n v (Some k) at e m = λ q. subst (λ (w : Value). HasTemplate (site_of G q) f w k) (sym at) (subst (λ (ns : List Named). First (λ name. HasMember G name n) ns k) e m)
