use Rattle.std.proofs.Common.{◌≡◌, ◌⊎◌, ◌+◌, ℕ, Bool, List, [], ◌++◌, length, sym, ap, ◌∙◌, subst, arith, refl, inl, inr, ⊎_elim, Some, None, vec_len}
use Rattle.std.specs.Prelude.{if◌then◌else◌, is_some}
use Rattle.std.specs.Ordering.{is_eq}
use Rattle.std.specs.Map.{lookup}
use Rattle.std.specs.BTreeMap.{get, btree_map_len}
use Rattle.sd_value.specs.Order.{value_cmp}
use Rattle.sd_value.specs.declared.Value.{Value}
use Rattle.page_spec.specs.Pieces.{HasTemplate}
use Rattle.page_spec.specs.Page.{HasText, Embeds, nowhere, on}
use Rattle.page_text.specs.declared.draft.Draft.{Draft}
use Rattle.page_text.specs.Texts.{AreTexts}
use Rattle.render.specs.declared.page.Known.TheVariants.{Open, Finished}
use Rattle.render.specs.declared.page.Frame.{Frame}
use Rattle.render.specs.Frames.{IsBegun, IsFrame, AreKnown, IsTaken, Marks, Chain}
use Rattle.render.specs.Asks.{FrameAsks}
use Rattle.render.proofs.Frames.{begun, entered, finished, made_whole, comes_again, final_from, waits_embeds, waits_templated, chain_leads, leads_trans, empty_list}
use Rattle.render.proofs.Asked.{keeps_none, keeps_then}
use Rattle.render.proofs.Scenes.{led_asks}
use Rattle.render.proofs.page.run.Goals as goal

pub taking-init : goal.taking-init
taking-init g c =
    let fixed = g.V.SiteView.fixed c.args.view.now in
    let v = c.args.frame.value in
    let same : c.in_ok-copy.field-0 ≡ v = c.in_ok-copy.ensures in
    let none : (w : Value) → get value_cmp c.new-known.result w ≡ None = λ w. ap (lookup (λ k. is_eq (value_cmp w k))) c.new-known.ensures.empty in
    let marks : (w : Value) → ((v ≡ w) × (get value_cmp c.mark.new.known w ≡ Some Open)) ⊎ ((v ≡ w → ⊥) × (get value_cmp c.mark.new.known w ≡ None)) =
    λ w. ⊎_elim (λ h. inl (sym same ∙ h.0, h.1)) (λ h. inr (λ e. h.0 (same ∙ e), h.1 ∙ none w)) (c.in_ok-mark.ensures.marks w) in
    record {
      own = c.requires.own;
      fixed = refl;
      state = rw (c.new-drafts.ensures.items, c.new-stack.ensures.items) (begun (g.V.SiteView.site fixed) (g.V.SiteView.templates fixed) v c.is_cut-cut.result c.args.frame c.mark.new.known c.requires.frame c.is_cut-cut.ensures.cut c.is_cut-cut.ensures.whole marks);
      kept = keeps_none;
    }

pub returns-in-Again-clause-answer : goal.returns-in-Again-clause-answer
returns-in-Again-clause-answer g c =
    let fixed = g.V.SiteView.fixed c.args.view.now in
    let s = g.V.SiteView.site fixed in
    let f = g.V.SiteView.templates fixed in
    let u = c.taking.invariant.state in
    let p = c.args.frame.value in
    let r = c.take.new.frame in
    let cut = c.taking.cut in
    let taken = subst (λ x. (page : Value) (cut : Bool) (ts : List (List ℕ)) → AreKnown (g.V.SiteView.site x) (g.V.SiteView.templates x) cut ts c.taking.known → IsFrame (g.V.SiteView.site x) (g.V.SiteView.templates x) page cut ts c.taking.top → IsTaken (g.V.SiteView.site x) (g.V.SiteView.templates x) page cut ts c.taking.known r c.in_ok-value.field-0) c.taking.invariant.fixed c.in_ok-value.ensures.taken p cut u.texts u.finished u.frame in
    let again = subst (IsTaken s f p cut u.texts c.taking.known r) c.in-Again.is taken in
    comes_again s f p cut c.taking.known c.taking.drafts.items c.taking.stack.items c.taking.top r c.in-Again.value u c.in_ok-value.ensures.value again.0 again.1

pub returns-in_err-frame_of-in-Enter-clause-kept : goal.returns-in_err-frame_of-in-Enter-clause-kept
returns-in_err-frame_of-in-Enter-clause-kept g c =
    let fixed = g.V.SiteView.fixed c.args.view.now in
    let s = g.V.SiteView.site fixed in
    let f = g.V.SiteView.templates fixed in
    let u = c.taking.invariant.state in
    let p = c.args.frame.value in
    let r = c.take.new.frame in
    let m = c.in-Enter.value in
    let cut = c.taking.cut in
    let taken = subst (λ x. (page : Value) (cut : Bool) (ts : List (List ℕ)) → AreKnown (g.V.SiteView.site x) (g.V.SiteView.templates x) cut ts c.taking.known → IsFrame (g.V.SiteView.site x) (g.V.SiteView.templates x) page cut ts c.taking.top → IsTaken (g.V.SiteView.site x) (g.V.SiteView.templates x) page cut ts c.taking.known r c.in_ok-value.field-0) c.taking.invariant.fixed c.in_ok-value.ensures.taken p cut u.texts u.finished u.frame in
    let enter = subst (IsTaken s f p cut u.texts c.taking.known r) c.in-Enter.is taken in
    let emb = subst (λ x. Embeds s f x m) c.in_ok-value.ensures.value (waits_embeds s f p cut u.texts r m enter.0) in
    let way = chain_leads s f p cut u.texts c.taking.stack.items [] p c.taking.top.value u.chain in
    keeps_then c.taking.invariant.kept
    (λ q h. led_asks s f c.args.frame.value c.taking.top.value m q way (leads_trans s f p p c.taking.top.value m way (on emb nowhere)) emb (subst (λ x. FrameAsks (g.V.SiteView.site x) (g.V.SiteView.templates x) m q) c.taking.invariant.fixed h))
    c.in_err-frame_of-in-Enter.ensures.kept

pub unreachable-requires : goal.unreachable-requires
unreachable-requires g c =
    let fixed = g.V.SiteView.fixed c.args.view.now in
    let s = g.V.SiteView.site fixed in
    let f = g.V.SiteView.templates fixed in
    let u = c.taking.invariant.state in
    let p = c.args.frame.value in
    let r = c.take.new.frame in
    let m = c.in-Enter.value in
    let cut = c.taking.cut in
    let taken = subst (λ x. (page : Value) (cut : Bool) (ts : List (List ℕ)) → AreKnown (g.V.SiteView.site x) (g.V.SiteView.templates x) cut ts c.taking.known → IsFrame (g.V.SiteView.site x) (g.V.SiteView.templates x) page cut ts c.taking.top → IsTaken (g.V.SiteView.site x) (g.V.SiteView.templates x) page cut ts c.taking.known r c.in_ok-value.field-0) c.taking.invariant.fixed c.in_ok-value.ensures.taken p cut u.texts u.finished u.frame in
    let enter = subst (IsTaken s f p cut u.texts c.taking.known r) c.in-Enter.is taken in
    let none = rw c.in-None.is at c.in_ok-frame_of-in-Enter.ensures.answer in
    let none' = subst (λ x. (k : ℕ) → HasTemplate (g.V.SiteView.site x) (g.V.SiteView.templates x) m k → ⊥) c.taking.invariant.fixed none in
    let t = waits_templated s f p cut u.texts r m enter.0 in
    none' t.0 t.1

pub returns-in_err-push-in-Some-clause-kept : goal.returns-in_err-push-in-Some-clause-kept
returns-in_err-push-in-Some-clause-kept g c =
    let fixed = g.V.SiteView.fixed c.args.view.now in
    let s = g.V.SiteView.site fixed in
    let f = g.V.SiteView.templates fixed in
    let u = c.taking.invariant.state in
    let p = c.args.frame.value in
    let r = c.take.new.frame in
    let m = c.in-Enter.value in
    let cut = c.taking.cut in
    let taken = subst (λ x. (page : Value) (cut : Bool) (ts : List (List ℕ)) → AreKnown (g.V.SiteView.site x) (g.V.SiteView.templates x) cut ts c.taking.known → IsFrame (g.V.SiteView.site x) (g.V.SiteView.templates x) page cut ts c.taking.top → IsTaken (g.V.SiteView.site x) (g.V.SiteView.templates x) page cut ts c.taking.known r c.in_ok-value.field-0) c.taking.invariant.fixed c.in_ok-value.ensures.taken p cut u.texts u.finished u.frame in
    let enter = subst (IsTaken s f p cut u.texts c.taking.known r) c.in-Enter.is taken in
    let emb = subst (λ x. Embeds s f x m) c.in_ok-value.ensures.value (waits_embeds s f p cut u.texts r m enter.0) in
    let way = chain_leads s f p cut u.texts c.taking.stack.items [] p c.taking.top.value u.chain in
    keeps_then c.taking.invariant.kept
    (λ q h. led_asks s f c.args.frame.value c.taking.top.value m q way (leads_trans s f p p c.taking.top.value m way (on emb nowhere)) emb (subst (λ x. FrameAsks (g.V.SiteView.site x) (g.V.SiteView.templates x) m q) c.taking.invariant.fixed h))
    c.in_ok-frame_of-in-Enter.ensures.kept

pub taking-smaller-in-Some : goal.taking-smaller-in-Some
taking-smaller-in-Some g c =
    let fixed = g.V.SiteView.fixed c.args.view.now in
    let s = g.V.SiteView.site fixed in
    let f = g.V.SiteView.templates fixed in
    let u = c.taking.invariant.state in
    let p = c.args.frame.value in
    let r = c.take.new.frame in
    let cut = c.taking.cut in
    let taken = subst (λ x. (page : Value) (cut : Bool) (ts : List (List ℕ)) → AreKnown (g.V.SiteView.site x) (g.V.SiteView.templates x) cut ts c.taking.known → IsFrame (g.V.SiteView.site x) (g.V.SiteView.templates x) page cut ts c.taking.top → IsTaken (g.V.SiteView.site x) (g.V.SiteView.templates x) page cut ts c.taking.known r c.in_ok-value.field-0) c.taking.invariant.fixed c.in_ok-value.ensures.taken p cut u.texts u.finished u.frame in
    let enter = subst (IsTaken s f p cut u.texts c.taking.known r) c.in-Enter.is taken in
    let none : get value_cmp c.taking.known c.in_ok-copy-in-Enter.field-0 ≡ None = ap (get value_cmp c.taking.known) c.in_ok-copy-in-Enter.ensures ∙ enter.1 in
    let more : btree_map_len c.mark-in-Enter.new.known ≡ btree_map_len c.taking.known + 1 = c.in_ok-mark-in-Enter.ensures.count ∙ ap (λ o. btree_map_len c.taking.known + (if is_some o then 0 else 1)) none in
    let pushed : vec_len c.push.new.self ≡ vec_len c.taking.stack + 1 = omega (arith, c.in_ok-push-in-Some.ensures.len) in
    omega (arith, more, pushed, c.in_ok-mark-in-Enter.ensures.small)

pub taking-preserved-in-Some : goal.taking-preserved-in-Some
taking-preserved-in-Some g c =
    let fixed = g.V.SiteView.fixed c.args.view.now in
    let s = g.V.SiteView.site fixed in
    let f = g.V.SiteView.templates fixed in
    let u = c.taking.invariant.state in
    let p = c.args.frame.value in
    let r = c.take.new.frame in
    let m = c.in-Enter.value in
    let q = c.in-Some.inner in
    let cut = c.taking.cut in
    let taken = subst (λ x. (page : Value) (cut : Bool) (ts : List (List ℕ)) → AreKnown (g.V.SiteView.site x) (g.V.SiteView.templates x) cut ts c.taking.known → IsFrame (g.V.SiteView.site x) (g.V.SiteView.templates x) page cut ts c.taking.top → IsTaken (g.V.SiteView.site x) (g.V.SiteView.templates x) page cut ts c.taking.known r c.in_ok-value.field-0) c.taking.invariant.fixed c.in_ok-value.ensures.taken p cut u.texts u.finished u.frame in
    let enter = subst (IsTaken s f p cut u.texts c.taking.known r) c.in-Enter.is taken in
    let emb = subst (λ x. Embeds s f x m) c.in_ok-value.ensures.value (waits_embeds s f p cut u.texts r m enter.0) in
    let way = chain_leads s f p cut u.texts c.taking.stack.items [] p c.taking.top.value u.chain in
    let marks = subst (λ x. Marks x Open c.taking.known c.mark-in-Enter.new.known) c.in_ok-copy-in-Enter.ensures c.in_ok-mark-in-Enter.ensures.marks in
    let a = rw c.in-Some.is at c.in_ok-frame_of-in-Enter.ensures.answer in
    let begun = subst (λ x. IsBegun (g.V.SiteView.site x) (g.V.SiteView.templates x) c.beside-beside.result m q) c.taking.invariant.fixed a in
    record {
      own = c.frame_of.ensures.own;
      fixed = c.frame_of.ensures.fixed ∙ c.taking.invariant.fixed;
      state = rw c.in_ok-push-in-Some.ensures.items (entered s f p cut c.is_cut-cut-in-Some.result c.beside-beside.result c.taking.known c.mark-in-Enter.new.known c.taking.drafts.items c.taking.stack.items c.taking.top r q m u c.in_ok-value.ensures.value enter.0 enter.1 marks begun c.beside-beside.ensures.cut c.beside-beside.ensures.whole c.is_cut-cut-in-Some.ensures.cut c.is_cut-cut-in-Some.ensures.whole);
      kept = keeps_then c.taking.invariant.kept
          (λ z h. led_asks s f c.args.frame.value c.taking.top.value m z way (leads_trans s f p p c.taking.top.value m way (on emb nowhere)) emb (subst (λ x. FrameAsks (g.V.SiteView.site x) (g.V.SiteView.templates x) m z) c.taking.invariant.fixed h))
          c.in_ok-frame_of-in-Enter.ensures.kept;
    }

pub outcome_of-requires : goal.outcome_of-requires
outcome_of-requires g c =
    let fixed = g.V.SiteView.fixed c.args.view.now in
    let s = g.V.SiteView.site fixed in
    let f = g.V.SiteView.templates fixed in
    let u = c.taking.invariant.state in
    let p = c.args.frame.value in
    let r = c.take.new.frame in
    let cut = c.taking.cut in
    let taken = subst (λ x. (page : Value) (cut : Bool) (ts : List (List ℕ)) → AreKnown (g.V.SiteView.site x) (g.V.SiteView.templates x) cut ts c.taking.known → IsFrame (g.V.SiteView.site x) (g.V.SiteView.templates x) page cut ts c.taking.top → IsTaken (g.V.SiteView.site x) (g.V.SiteView.templates x) page cut ts c.taking.known r c.in_ok-value.field-0) c.taking.invariant.fixed c.in_ok-value.ensures.taken p cut u.texts u.finished u.frame in
    let whole = subst (IsTaken s f p cut u.texts c.taking.known r) c.in-All.is taken in
    λ e.
    let made = made_whole s f p cut u.texts c.taking.drafts.items r.draft whole.0 e u.drafted whole.2 in
    let k = c.in_ok-text-in-All.ensures u.texts whole.0 made.0 made.1 in
    (u.texts ++ k.0, subst (λ (l : List Draft). AreTexts l (u.texts ++ k.0)) (sym c.as_slice.ensures.value) k.1, k.2.there)

pub returns-in-None-pop-clause-answer : goal.returns-in-None-pop-clause-answer
returns-in-None-pop-clause-answer g c =
    let fixed = g.V.SiteView.fixed c.args.view.now in
    let s = g.V.SiteView.site fixed in
    let f = g.V.SiteView.templates fixed in
    let u = c.taking.invariant.state in
    let p = c.args.frame.value in
    let r = c.take.new.frame in
    let cut = c.taking.cut in
    let taken = subst (λ x. (page : Value) (cut : Bool) (ts : List (List ℕ)) → AreKnown (g.V.SiteView.site x) (g.V.SiteView.templates x) cut ts c.taking.known → IsFrame (g.V.SiteView.site x) (g.V.SiteView.templates x) page cut ts c.taking.top → IsTaken (g.V.SiteView.site x) (g.V.SiteView.templates x) page cut ts c.taking.known r c.in_ok-value.field-0) c.taking.invariant.fixed c.in_ok-value.ensures.taken p cut u.texts u.finished u.frame in
    let whole = subst (IsTaken s f p cut u.texts c.taking.known r) c.in-All.is taken in
    let none = empty_list c.taking.stack.items (let e : length c.taking.stack.items ≡ 0 = omega (arith, c.taking.stack.ok.0, c.in-None-pop.ensures.cases) in e) in
    let last = subst (λ (l : List Frame). Chain s f p cut u.texts [] p l c.taking.top.value) none u.chain in
    let has = subst (λ v. HasText s f v whole.0) (c.in_ok-value.ensures.value ∙ sym last.0) whole.1 in
    final_from s f p cut c.in_ok-outcome-in-None-pop.outcome whole.0 has u.long c.in_ok-outcome-in-None-pop.ensures.cut
    (λ e.
    let made = made_whole s f p cut u.texts c.taking.drafts.items r.draft whole.0 e u.drafted whole.2 in
    let k = c.in_ok-text-in-All.ensures u.texts whole.0 made.0 made.1 in
    c.in_ok-outcome-in-None-pop.ensures.text e (u.texts ++ k.0) whole.0 (subst (λ (l : List Draft). AreTexts l (u.texts ++ k.0)) (sym c.as_slice.ensures.value) k.1) k.2)

pub taking-preserved : goal.taking-preserved
taking-preserved g c =
    let fixed = g.V.SiteView.fixed c.args.view.now in
    let s = g.V.SiteView.site fixed in
    let f = g.V.SiteView.templates fixed in
    let u = c.taking.invariant.state in
    let p = c.args.frame.value in
    let r = c.take.new.frame in
    let n = c.in_ok-text-in-All.text in
    let cut = c.taking.cut in
    let taken = subst (λ x. (page : Value) (cut : Bool) (ts : List (List ℕ)) → AreKnown (g.V.SiteView.site x) (g.V.SiteView.templates x) cut ts c.taking.known → IsFrame (g.V.SiteView.site x) (g.V.SiteView.templates x) page cut ts c.taking.top → IsTaken (g.V.SiteView.site x) (g.V.SiteView.templates x) page cut ts c.taking.known r c.in_ok-value.field-0) c.taking.invariant.fixed c.in_ok-value.ensures.taken p cut u.texts u.finished u.frame in
    let whole = subst (IsTaken s f p cut u.texts c.taking.known r) c.in-All.is taken in
    let has = subst (λ v. HasText s f v whole.0) c.in_ok-value.ensures.value whole.1 in
    let marks = subst (λ x. Marks x (Finished n) c.taking.known c.mark-in-Some-pop.new.known) c.in_ok-value.ensures.value c.in_ok-mark-in-Some-pop.ensures.marks in
    let e = c.in_ok-top-in-Some-pop.ensures in
    record {
      own = c.taking.invariant.own;
      fixed = c.taking.invariant.fixed;
      state = finished s f p cut c.taking.known c.mark-in-Some-pop.new.known c.taking.drafts.items c.keep.new.drafts.items c.taking.stack.items c.pop.new.self.items c.taking.top c.in-Some-pop.outer c.in_ok-top-in-Some-pop.top r.draft n u
          c.in-Some-pop.ensures.items whole.0 has whole.2 c.in_ok-text-in-All.ensures marks e.value e.left e.draft e.least;
      kept = c.taking.invariant.kept;
    }
