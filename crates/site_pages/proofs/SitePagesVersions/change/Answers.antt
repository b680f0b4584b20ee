use Rattle.std.proofs.Common.{◌∙◌, sym, subst, true≢false}
use Rattle.std.specs.Prelude.{Bool, IfOk}
use Rattle.std.proofs.lemmas.Result.{IfOk-weaker}
use Rattle.sd_value.specs.declared.Term.{Term}
use Rattle.page_spec.specs.Page.{IsOutcome}
use Rattle.data_texts.specs.ComposedTexts.{MakesData}
use Rattle.data_texts.specs.RunTexts.{IsRunText}
use Rattle.data_texts.specs.declared.run_texts.RunText.{RunText}
use Rattle.data_texts.specs.declared.run_texts.RunText.TheVariants.{Other}
use Rattle.data_texts.proofs.TheEdits.{the_edits}
use Rattle.edit_laws.specs.Laws.{HasMadeSources}
use Rattle.edit_footprint.proofs.Stays.{made_sources}
use Rattle.versions.specs.Changes.{TellsEach}
use Rattle.site_pages.specs.Made.{fixed_of}
use Rattle.site_pages.specs.Texts.{Current, current_site, current_templates}
use Rattle.site_pages.proofs.PagesLemmas.{data_changed, data_stays, edit_flags, edit_stays_by}
use Rattle.site_pages.proofs.EditLemmas.{well_formed_in, of_data_under, some_of_data, edit_sound}
use Rattle.site_pages.proofs.SitePagesVersions.change.Goals as goal

pub returns-in-Data-clause-changed : goal.returns-in-Data-clause-changed
returns-in-Data-clause-changed c =
    let before : Current = record { first = c.args.self.now.first.now; pages = fixed_of c.args.self.now.pages } in
    let P : RunText → Type 0 = IsRunText c.args.self.now.first.now c.args.text.now in
    let makes : MakesData c.args.self.now.first.now c.args.text.now c.in-Data.graph = subst P c.in-Data.is c.in_ok-graph.ensures in
    IfOk-weaker c.take_data.result _ _
    (λ x state. data_changed before c.args.text.now c.in-Data.graph makes _ state) c.take_data.ensures.state

pub returns-in-Data-clause-sound : goal.returns-in-Data-clause-sound
returns-in-Data-clause-sound c =
    let before : Current = record { first = c.args.self.now.first.now; pages = fixed_of c.args.self.now.pages } in
    let P : RunText → Type 0 = IsRunText c.args.self.now.first.now c.args.text.now in
    let makes : MakesData c.args.self.now.first.now c.args.text.now c.in-Data.graph = subst P c.in-Data.is c.in_ok-graph.ensures in
    IfOk-weaker c.take_data.result _ _
    (λ x state t o within is. absurd (true≢false (sym is ∙ data_stays before c.args.text.now c.in-Data.graph makes t))) c.take_data.ensures.state

pub take_text_edit-requires-clause-of_data : goal.take_text_edit-requires-clause-of_data
take_text_edit-requires-clause-of_data c =
    let P : RunText → Type 0 = IsRunText c.args.self.now.first.now c.args.text.now in
    let other : IsRunText c.args.self.now.first.now c.args.text.now (Other c.in-Other.edit) = subst P c.in-Other.is c.in_ok-graph.ensures in
    some_of_data c.args.self.now.first.now c.args.text.now c.in-Other.edit (other.1 the_edits)

pub returns-in-Other-clause-flags : goal.returns-in-Other-clause-flags
returns-in-Other-clause-flags c =
    let before : Current = record { first = c.args.self.now.first.now; pages = fixed_of c.args.self.now.pages } in
    let P : RunText → Type 0 = IsRunText c.args.self.now.first.now c.args.text.now in
    let other : IsRunText c.args.self.now.first.now c.args.text.now (Other c.in-Other.edit) = subst P c.in-Other.is c.in_ok-graph.ensures in
    subst (λ (s : Term → Bool). IfOk c.take_text_edit.result (TellsEach s c.args.kept.now))
    (edit_flags before c.args.text.now other.0 c.in-Other.edit (other.1 the_edits)) c.take_text_edit.ensures.flags

pub returns-in-Other-clause-sound : goal.returns-in-Other-clause-sound
returns-in-Other-clause-sound c =
    let before : Current = record { first = c.args.self.now.first.now; pages = fixed_of c.args.self.now.pages } in
    let P : RunText → Type 0 = IsRunText c.args.self.now.first.now c.args.text.now in
    let other : IsRunText c.args.self.now.first.now c.args.text.now (Other c.in-Other.edit) = subst P c.in-Other.is c.in_ok-graph.ensures in
    let spelled = other.1 the_edits in
    let made = subst HasMadeSources (sym c.requires.own.2) (made_sources c.args.self.now.scopes.now c.requires.own.1) in
    IfOk-weaker c.take_text_edit.result _ _
    (λ x state t o within is h. subst (λ (now : Current). IsOutcome (current_site now) (current_templates now) t o) (sym state)
    (edit_sound before (well_formed_in c.args.self.now.pages c.requires.own.0) made c.in-Other.edit
    (λ e found. of_data_under c.args.self.now.first.now c.args.text.now e (sym found ∙ spelled)) t o
    (sym (edit_stays_by before c.args.text.now other.0 c.in-Other.edit spelled t) ∙ is) h))
    c.take_text_edit.ensures.state
