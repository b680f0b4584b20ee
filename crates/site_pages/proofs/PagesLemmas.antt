-- What a text makes of a site's data.
use Rattle.std.proofs.Common.{◌≡◌, ℕ, Bool, true, false, List, Option, map, refl, sym, ap, ◌∙◌, if◌then◌else◌}
use Rattle.std.specs.Prelude.{◌&&◌, ◌||◌, not, Some}
use Rattle.sd_value.specs.declared.Term.{Term}
use Rattle.graph_spec.specs.DataGraph.{DataGraph}
use Rattle.query_spec.specs.Query as plain
use Rattle.tmpl.specs.Body.{TemplateFile}
use Rattle.site_spec.specs.Site.{Scope}
use Rattle.click_time.specs.Page.{PageFixed}
use Rattle.data_texts.proofs.TheReader.{accepts_made, accepts_none}
use Rattle.data_texts.specs.ComposedTexts.{MakesData}
use Rattle.data_texts.proofs.Reading.{one_data}
use Rattle.edit_spec.specs.declared.Edit.{Edit}
use Rattle.data_texts.specs.Edits.{edit_under, is_taken, edited}
use Rattle.data_texts.proofs.TheTouching.{the_touching}
use Rattle.site_pages.specs.declared.made.MadePages.{MadePages}
use Rattle.site_pages.specs.declared.made.MadePages.TheVariants.{Demanded, FromWhole}
use Rattle.site_pages.specs.Made.{fixed_of, store_in}
use Rattle.site_pages.specs.Rules.{the_rules}
use Rattle.site_pages.specs.Texts.{Current, over_data, edit_stays, data_texts}

abbrev pub changed : Current → List ℕ → Current
changed = (data_texts the_rules).changed

abbrev pub accepts : Current → List ℕ → Bool
accepts = (data_texts the_rules).accepts

abbrev pub stays : Current → List ℕ → Term → Bool
stays = (data_texts the_rules).stays

-- the same data, query and templates, also under one first query
pub same_current : (first : Option plain.Query) (f : PageFixed) (graph : DataGraph) (scope : Scope) (templates : TemplateFile) → f ≡ record { graph = graph; scope = scope; templates = templates }
    → ◌≡◌ {A = Current} (record { first = first; pages = f }) (record { first = first; pages = record { graph = graph; scope = scope; templates = templates } })
same_current first f graph scope templates is = λ i. record { first = first; pages = is i }

-- pages over other data, with the query and the templates of before
pub over_is : (before : Current) (now : PageFixed) (G : DataGraph) (scope : Scope) (templates : TemplateFile) → before.pages.scope ≡ scope → before.pages.templates ≡ templates
    → now ≡ record { graph = G; scope = scope; templates = templates } → ◌≡◌ {A = Current} (record { first = before.first; pages = now }) (over_data before G)
over_is before now G scope templates scope_is templates_are is =
    same_current before.first now G scope templates is
    ∙ (λ i. record { first = before.first; pages = record { graph = G; scope = sym scope_is i; templates = sym templates_are i } })

module _ (before : Current) (text : List ℕ) where
  abbrev is_data : Bool
  is_data = (the_rules.data_readers before.first).accepts text

  abbrev stated : DataGraph
  stated = (the_rules.data_readers before.first).stated text

  abbrev found : Option Edit
  found = edit_under the_rules.edits before.first text

  abbrev left : DataGraph
  left = edited found before.pages.graph

  abbrev stays_by : Bool → Term → Bool
  stays_by b t = if b then false else edit_stays the_rules before found t

  -- ---- a text that makes data is accepted, and its data are the current ones

  module _ (G : DataGraph) (makes : MakesData before.first text G) where
    read : (is_data ≡ true) × (stated ≡ G)
    read = accepts_made (MakesData before.first) (the_rules.data_readers before.first) text (one_data before.first text) G makes

    pub data_changed : (now : Current) → now ≡ over_data before G → now ≡ changed before text
    data_changed now is =
        is ∙ sym (ap (λ (b : Bool). over_data before (if b then stated else left)) read.0 ∙ ap (over_data before) read.1)

    none_stays_so : ◌≡◌ {A = Term → Bool} (λ t. false) (stays before text)
    none_stays_so = sym (ap stays_by read.0)

    pub data_stays : (t : Term) → stays before text t ≡ false
    data_stays t = ap (λ (b : Bool). if b then false else edit_stays the_rules before found t) read.0

  -- ---- any other text may be an edit

  module _ (none : (G : DataGraph) → ¬ MakesData before.first text G) where
    not_data : is_data ≡ false
    not_data = accepts_none (MakesData before.first) (the_rules.data_readers before.first) text none

    taken_is : accepts before text ≡ is_taken found before.pages.graph
    taken_is = ap (λ (b : Bool). b || is_taken found before.pages.graph) not_data

    stays_so : ◌≡◌ {A = Term → Bool} (edit_stays the_rules before found) (stays before text)
    stays_so = sym (ap stays_by not_data)

    pub edit_stays_is : (t : Term) → stays before text t ≡ edit_stays the_rules before found t
    edit_stays_is t = ap (λ (b : Bool). if b then false else edit_stays the_rules before found t) not_data

    module _ (o : Option Edit) (is : o ≡ found) where
      pub edit_stays_by : (t : Term) → stays before text t ≡ edit_stays the_rules before o t
      edit_stays_by t = edit_stays_is t ∙ ap (λ (x : Option Edit). edit_stays the_rules before x t) (sym is)

      pub edit_flags : ◌≡◌ {A = Term → Bool} (edit_stays the_rules before o) (stays before text)
      edit_flags = ap (λ (x : Option Edit). edit_stays the_rules before x) is ∙ stays_so

-- ---- an edit of the pages' own store

graph_in : (pages : MadePages) → (store_in pages).graph ≡ (fixed_of pages).graph
graph_in (Demanded click) = refl
graph_in (FromWhole whole) = refl

module _ (first : Option plain.Query) (old taken : MadePages) (same : taken ≡ old) where
  graph_is : (store_in taken).graph ≡ (fixed_of old).graph
  graph_is = ap (λ (p : MadePages). (store_in p).graph) same ∙ graph_in old

  abbrev Before : Current
  Before = record { first = first; pages = fixed_of old }

  pub edit_state : (o : Option Edit) (new : PageFixed) (scope : Scope) (templates : TemplateFile) → (fixed_of old).scope ≡ scope → (fixed_of old).templates ≡ templates
      → new ≡ record { graph = edited o (store_in taken).graph; scope = scope; templates = templates }
      → ◌≡◌ {A = Current} (record { first = first; pages = new }) (over_data Before (edited o (fixed_of old).graph))
  edit_state o new scope templates scope_is templates_are is =
      over_is Before new (edited o (fixed_of old).graph) scope templates scope_is templates_are
      (is ∙ (λ i. record { graph = edited o (graph_is i); scope = scope; templates = templates }))

  pub edit_room : (o : Option Edit) (room : Bool) → room ≡ is_taken o (store_in taken).graph → room ≡ is_taken o (fixed_of old).graph
  edit_room o room is = is ∙ ap (is_taken o) graph_is

pub edit_told : (before : Current) (e : Edit) (scope : Scope) (templates : TemplateFile) (kept : List Term) (flags : List Bool) → before.pages.scope ≡ scope
    → before.pages.templates ≡ templates → is_taken (Some e) before.pages.graph ≡ true
    → flags ≡ map (λ (t : Term). not (the_touching.touches e scope templates t.function)) kept → flags ≡ map (edit_stays the_rules before (Some e)) kept
edit_told before e scope templates kept flags scope_is templates_are room is =
    is ∙ (λ i. map (λ (t : Term). sym room i && not (the_touching.touches e (sym scope_is i) (sym templates_are i) t.function)) kept)
