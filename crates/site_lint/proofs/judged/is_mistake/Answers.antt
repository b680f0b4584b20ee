use Rattle.std.proofs.Common.{◌≡◌, ◌↔◌, ◌++◌, ℕ, List, sym, subst}
use Rattle.std.specs.Prelude.{IsTrue, IfOk, Contains, Option, Some}
use Rattle.sd_value.specs.Names.{Name}
use Rattle.graph_spec.specs.DataGraph.{IsLabelOf}
use Rattle.site_spec.specs.Site.{Scope}
use Rattle.query_blocks.specs.Blocks.{scope_of}
use Rattle.tmpl.specs.Reading.{file_of}
use Rattle.lint_spec.specs.declared.Asked.{Asked}
use Rattle.lint_spec.specs.Mistakes.{IsMistake, NoLinkOf, created, linked, put, presented, root_of}
use Rattle.site_lint.proofs.Marks.{marked_rows}
use Rattle.site_lint.proofs.NameLists.{same_absent, other_last, other_first, other_all, first_if_ok}
use Rattle.site_lint.proofs.judged.is_mistake.Goals as goal

pub returns-in-Collection : goal.returns-in-Collection
returns-in-Collection g c =
    let s = c.args.site.now in
    subst (λ (w : Asked). IsTrue c.is_empty_collection.result ↔ IsMistake (g.S.Store.graph s.store.now) (scope_of s.blocks.now) (file_of s.templates.now) s.further.now w) (sym c.in-Collection.is)
    (other_last c.is_empty_collection.result c.is_empty_collection.ensures (same_absent (c.requires.names.of_collects c.in-Collection.name)))

pub returns-in-Member : goal.returns-in-Member
returns-in-Member g c =
    let s = c.args.site.now in
    subst (λ (w : Asked). IsTrue c.is_only_collected.result ↔ IsMistake (g.S.Store.graph s.store.now) (scope_of s.blocks.now) (file_of s.templates.now) s.further.now w) (sym c.in-Member.is)
    (other_last c.is_only_collected.result c.is_only_collected.ensures (c.requires.names.of_collects c.in-Member.name))

pub returns-in-Presented : goal.returns-in-Presented
returns-in-Presented g c =
    let s = c.args.site.now in
    subst (λ (w : Asked). IsTrue c.is_absent-in-Presented.result ↔ IsMistake (g.S.Store.graph s.store.now) (scope_of s.blocks.now) (file_of s.templates.now) s.further.now w) (sym c.in-Presented.is)
    (other_all c.is_absent-in-Presented.result c.is_absent-in-Presented.ensures (same_absent (c.requires.names.of_creates c.in-Presented.function)))

pub returns-in-Rows : goal.returns-in-Rows
returns-in-Rows g c =
    let s = c.args.site.now in
    let m = marked_rows (g.S.Store.graph s.store.now) s.blocks.now.version s.blocks.now.blocks.items s.without_rows.now c.in-Rows.number (λ b h. (c.requires.checked b h).chain) c.requires.rows in
    subst (λ (w : Asked). IsTrue c.is_marked.result ↔ IsMistake (g.S.Store.graph s.store.now) (scope_of s.blocks.now) (file_of s.templates.now) s.further.now w) (sym c.in-Rows.is)
    (λ t. m.0 (c.is_marked.ensures.0 t), λ o. c.is_marked.ensures.1 (m.1 o))

pub returns-in-Linked : goal.returns-in-Linked
returns-in-Linked g c =
    let s = c.args.site.now in
    let f = c.in-Linked.function in
    let r = c.leads_nowhere.result in
    subst (λ (w : Asked). IsTrue r ↔ IsMistake (g.S.Store.graph s.store.now) (scope_of s.blocks.now) (file_of s.templates.now) s.further.now w) (sym c.in-Linked.is)
    (subst (λ (q : Scope). IsTrue r ↔ ((Contains (presented (file_of s.templates.now)) f → ⊥) × ((l : List ℕ) → Contains s.further.now l → NoLinkOf q f l))) c.requires.query
    (other_first r (c.leads_nowhere.ensures (g.L.LinkAnswers.query s.answers.now) s.names.now.created s.further.now c.requires.links) (same_absent (c.requires.names.of_presented f))))

pub returns-in-LinkOf : goal.returns-in-LinkOf
returns-in-LinkOf g c =
    let s = c.args.site.now in
    subst (λ (w : Asked). IfOk c.has_none.result (λ b. IsTrue b ↔ IsMistake (g.S.Store.graph s.store.now) (scope_of s.blocks.now) (file_of s.templates.now) s.further.now w)) (sym c.in-LinkOf.is)
    (subst (λ (q : Scope). IfOk c.has_none.result (λ b. IsTrue b ↔ NoLinkOf q c.in-LinkOf.function c.in-LinkOf.label)) c.requires.query c.has_none.ensures)

pub returns-in-Step : goal.returns-in-Step
returns-in-Step g c =
    let s = c.args.site.now in
    let l = c.in-Step.label in
    let all = c.requires.names.of_creates in
    subst (λ (w : Asked). IfOk c.is_unknown_step.result (λ b. IsTrue b ↔ IsMistake (g.S.Store.graph s.store.now) (scope_of s.blocks.now) (file_of s.templates.now) s.further.now w)) (sym c.in-Step.is)
    (subst (λ (q : Scope). IfOk c.is_unknown_step.result (λ b. IsTrue b ↔ (((f : List ℕ) → Contains (created (scope_of s.blocks.now).bodies) f → NoLinkOf q f l) × (IsLabelOf (g.S.Store.graph s.store.now) l → ⊥)))) c.requires.query
    (first_if_ok _ _ _ c.is_unknown_step.result c.is_unknown_step.ensures (λ none f h. none f ((all f).1 h), λ none f h. none f ((all f).0 h))))

pub returns-then-is_absent : goal.returns-then-is_absent
returns-then-is_absent g c =
    let s = c.args.site.now in
    let f = c.in-Created.function in
    let bodies = (scope_of s.blocks.now).bodies in
    let all = same_absent (c.requires.names.of_reached f) in
    let root = subst (λ (o : Option Name). IsTrue c.is_other.result ↔ (o ≡ Some f → ⊥)) c.requires.names.of_root c.is_other.ensures in
    let there : IsTrue c.is_other.result ↔ ((Contains (linked bodies ++ put bodies) f → ⊥) × (root_of bodies ≡ Some f → ⊥)) =
    (λ t. (all.0 (c.is_absent.ensures.0 c.if-is_absent.true), root.0 t), λ h. root.1 h.1) in
    subst (λ (w : Asked). IsTrue c.is_other.result ↔ IsMistake (g.S.Store.graph s.store.now) (scope_of s.blocks.now) (file_of s.templates.now) s.further.now w) (sym c.in-Created.is) there

pub returns-else-is_absent : goal.returns-else-is_absent
returns-else-is_absent g c =
    let s = c.args.site.now in
    let f = c.in-Created.function in
    let bodies = (scope_of s.blocks.now).bodies in
    let all = same_absent (c.requires.names.of_reached f) in
    let there : IsTrue c.is_absent.result ↔ ((Contains (linked bodies ++ put bodies) f → ⊥) × (root_of bodies ≡ Some f → ⊥)) =
    (λ t. (let off = c.if-is_absent.false in let on = t in cc), λ h. c.is_absent.ensures.1 (all.1 h.0)) in
    subst (λ (w : Asked). IsTrue c.is_absent.result ↔ IsMistake (g.S.Store.graph s.store.now) (scope_of s.blocks.now) (file_of s.templates.now) s.further.now w) (sym c.in-Created.is) there
