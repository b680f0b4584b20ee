use Rattle.std.proofs.Common.{◌≡◌, ℕ, List, ◌∙◌, sym, refl, arith, subst}
use Rattle.std.proofs.lemmas.List.{take_all}
use Rattle.sd_value.specs.declared.Value.{Value}
use Rattle.page_spec.specs.declared.Bound.{Bound}
use Rattle.tmpl.specs.declared.Part.{Part}
use Rattle.tmpl.specs.Body.{body_of}
use Rattle.page_spec.specs.Site.{Env}
use Rattle.page_spec.specs.Pieces.{Item, Expands, Joined, Formatted, TestHolds, binding, bytes, delimiter}
use Rattle.std.proofs.Common.{[], ◌++◌}
use Rattle.std.specs.Prelude.{if◌then◌else◌, nat_lt}
use Rattle.render.specs.Room.{Adds}
use Rattle.render.proofs.Room.{ok_then, adds_none, adds_then}
use Rattle.render.specs.Rows.{PartExpands}
use Rattle.render.proofs.Joins.{joined_more, expands_more, expands_all, taken_by, not_taken_by, choice_taken, choice_other, repeated}
use Rattle.std.proofs.Common.{rules, inl, inr, IfOk}
use Rattle.std.specs.Prelude.{Contains, length}
use Rattle.std.specs.Fmt.{decimal}
use Rattle.tmpl.specs.Body.{part_before, done}
use Rattle.render.specs.Asks.{SceneAsks, ModeAsks}
use Rattle.render.proofs.Asked.{keeps_as, keeps_then, arranged_in, item_in}
use Rattle.render.proofs.Scenes.{part_in, format_asks, count_asks, choice_asks, repeat_asks}
use Rattle.render.proofs.pieces.+expand.Goals as goal

pub expand-returns-in_err-expand_part-clause-kept : goal.expand-returns-in_err-expand_part-clause-kept
expand-returns-in_err-expand_part-clause-kept g t c =
    let fixed = g.V.SiteView.fixed c.args.view.now in
    let s = g.V.SiteView.site fixed in
    let f = g.V.SiteView.templates fixed in
    let sc : Env = record { here = c.args.here.now; loops = c.args.loops.now } in
    keeps_then c.loop-part.invariant.kept (λ q h. part_in s sc c.args.parts.now c.loop-part.part-index c.part-item.result q (omega arith) c.part-item.is (subst (λ x. SceneAsks (g.V.SiteView.site x) sc (part_before c.part-item.result done) q) c.loop-part.invariant.fixed h)) c.expand_part.ensures.kept

pub expand-loop-part-preserved : goal.expand-loop-part-preserved
expand-loop-part-preserved g t c =
    let fixed = g.V.SiteView.fixed c.args.view.now in
    let s = g.V.SiteView.site fixed in
    let f = g.V.SiteView.templates fixed in
    let sc : Env = record { here = c.args.here.now; loops = c.args.loops.now } in
    let so_far = c.loop-part.invariant.so_far in
    let one = subst (λ x. (ps : List Item) × PartExpands (g.V.SiteView.site x) (g.V.SiteView.templates x) sc c.part-item.result ps × Adds c.loop-part.out c.expand_part.new.out ps) c.loop-part.invariant.fixed c.in_ok-expand_part.ensures.answer in
    record {
      own = c.expand_part.ensures.own;
      fixed = c.expand_part.ensures.fixed ∙ c.loop-part.invariant.fixed;
      so_far = (
        so_far.0 ++ one.0,
        expands_more s f sc c.args.parts.now c.loop-part.part-index c.part-item.result so_far.0 one.0 (omega arith) c.part-item.is so_far.1 one.1,
        adds_then c.args.out.now c.loop-part.out c.expand_part.new.out so_far.0 one.0 so_far.2 one.2,
      );
      kept = keeps_then c.loop-part.invariant.kept (λ q h. part_in s sc c.args.parts.now c.loop-part.part-index c.part-item.result q (omega arith) c.part-item.is (subst (λ x. SceneAsks (g.V.SiteView.site x) sc (part_before c.part-item.result done) q) c.loop-part.invariant.fixed h)) c.expand_part.ensures.kept;
    }

pub expand-returns-clause-answer : goal.expand-returns-clause-answer
expand-returns-clause-answer g t c =
    let fixed = g.V.SiteView.fixed c.args.view.now in
    let s = g.V.SiteView.site fixed in
    let f = g.V.SiteView.templates fixed in
    let sc : Env = record { here = c.args.here.now; loops = c.args.loops.now } in
    let so_far = c.loop-part.invariant.so_far in
    (so_far.0, expands_all s f sc c.args.parts.now c.loop-part.part-index so_far.0 (omega arith) so_far.1, so_far.2)

pub expand_part-returns-in_err-values-in-Format-clause-kept : goal.expand_part-returns-in_err-values-in-Format-clause-kept
expand_part-returns-in_err-values-in-Format-clause-kept g t c =
    let fixed = g.V.SiteView.fixed c.args.view.now in
    let s = g.V.SiteView.site fixed in
    let f = g.V.SiteView.templates fixed in
    let sc : Env = record { here = c.args.here.now; loops = c.args.loops.now } in
    keeps_as (λ q h. format_asks s sc c.args.part.now c.in-Format.format q c.in-Format.is (inl h)) c.arranged.ensures.kept

pub expand_part-returns-in_err-holds-in-Choice-clause-kept : goal.expand_part-returns-in_err-holds-in-Choice-clause-kept
expand_part-returns-in_err-holds-in-Choice-clause-kept g t c =
    let fixed = g.V.SiteView.fixed c.args.view.now in
    let s = g.V.SiteView.site fixed in
    let f = g.V.SiteView.templates fixed in
    let sc : Env = record { here = c.args.here.now; loops = c.args.loops.now } in
    keeps_as (λ q h. choice_asks s sc c.args.part.now c.in-Choice.choice q c.in-Choice.is (inl h)) c.holds.ensures.kept

pub expand_part-returns-in_err-values-in-Repeat-clause-kept : goal.expand_part-returns-in_err-values-in-Repeat-clause-kept
expand_part-returns-in_err-values-in-Repeat-clause-kept g t c =
    let fixed = g.V.SiteView.fixed c.args.view.now in
    let s = g.V.SiteView.site fixed in
    let f = g.V.SiteView.templates fixed in
    let sc : Env = record { here = c.args.here.now; loops = c.args.loops.now } in
    keeps_as (λ q h. repeat_asks s sc c.args.part.now c.in-Repeat.repeat q c.in-Repeat.is (inl h)) c.in_err-values-in-Repeat.ensures.kept

pub expand_part-loop-number-init : goal.expand_part-loop-number-init
expand_part-loop-number-init g t c =
    let fixed = g.V.SiteView.fixed c.args.view.now in
    let s = g.V.SiteView.site fixed in
    let f = g.V.SiteView.templates fixed in
    let sc : Env = record { here = c.args.here.now; loops = c.args.loops.now } in
    record {
      own = search rules;
      fixed = search rules;
      joined = ([], refl, adds_none c.args.out.now);
      kept = keeps_as (λ q h. repeat_asks s sc c.args.part.now c.in-Repeat.repeat q c.in-Repeat.is (inl h)) c.in_ok-values-in-Repeat.ensures.kept;
    }

pub expand_part-returns-in_err-expand-in-Repeat-clause-kept : goal.expand_part-returns-in_err-expand-in-Repeat-clause-kept
expand_part-returns-in_err-expand-in-Repeat-clause-kept g t c =
    let fixed = g.V.SiteView.fixed c.args.view.now in
    let s = g.V.SiteView.site fixed in
    let f = g.V.SiteView.templates fixed in
    let sc : Env = record { here = c.args.here.now; loops = c.args.loops.now } in
    keeps_then c.loop-number.invariant.kept
    (λ q h. repeat_asks s sc c.args.part.now c.in-Repeat.repeat q c.in-Repeat.is (inr (
      c.value-item.result,
      arranged_in s sc c.in-Repeat.repeat.values c.in-Repeat.repeat.order c.in_ok-values-in-Repeat.values.items c.value-item.result c.in_ok-values-in-Repeat.ensures.answer (subst (λ (l : List Value). Contains l c.value-item.result) c.deref-value-items.ensures.value (item_in c.deref-value-items.result.now c.loop-number.number c.value-item.result (omega arith) c.value-item.is)),
      subst (λ (l : List Bound). SceneAsks s record { here = c.args.here.now; loops = l } (body_of c.in-Repeat.repeat.body.items) q) (c.as_slice-in-loop-number.ensures.value ∙ c.in_ok-inner-in-Repeat.ensures)
          (subst (λ (l : List Part). SceneAsks s record { here = c.args.here.now; loops = c.as_slice-in-loop-number.result.now } (body_of l) q) c.as_slice-in-loop-number-2.ensures.value
          (subst (λ x. SceneAsks (g.V.SiteView.site x) record { here = c.args.here.now; loops = c.as_slice-in-loop-number.result.now } (body_of c.as_slice-in-loop-number-2.result.now) q) c.loop-number.invariant.fixed h)),
    )))
    c.in_err-expand-in-Repeat.ensures.kept

pub expand_part-loop-number-preserved : goal.expand_part-loop-number-preserved
expand_part-loop-number-preserved g t c =
    let fixed = g.V.SiteView.fixed c.args.view.now in
    let s = g.V.SiteView.site fixed in
    let f = g.V.SiteView.templates fixed in
    let sc : Env = record { here = c.args.here.now; loops = c.args.loops.now } in
    let x = c.in-Repeat.repeat in
    let v = c.value-item.result in
    let d = delimiter x.order.delimiter in
    let before = if nat_lt 0 c.loop-number.number then d else [] in
    let so_far = c.loop-number.invariant.joined in
    let one = subst (λ y. (ps : List Item) × Expands (g.V.SiteView.site y) (g.V.SiteView.templates y) record { here = c.args.here.now; loops = c.as_slice-in-loop-number.result.now } (body_of c.as_slice-in-loop-number-2.result.now) ps × Adds c.separator.new.out c.expand-in-loop-number.new.out ps) c.loop-number.invariant.fixed c.in_ok-expand-in-Repeat.ensures.answer in
    let e' = subst (λ (l : List Part). Expands s f record { here = c.args.here.now; loops = c.as_slice-in-loop-number.result.now } (body_of l) one.0) c.as_slice-in-loop-number-2.ensures.value one.1 in
    let e'3 = subst (λ (l : List Bound). Expands s f record { here = c.args.here.now; loops = l } (body_of x.body.items) one.0) (c.as_slice-in-loop-number.ensures.value ∙ c.in_ok-inner-in-Repeat.ensures) e' in
    record {
      own = c.expand-in-loop-number.ensures.own;
      fixed = c.expand-in-loop-number.ensures.fixed ∙ c.loop-number.invariant.fixed;
      joined = (
        (so_far.0 ++ before) ++ one.0,
        joined_more (λ w. Expands s f (binding sc x.number w) (body_of x.body.items)) d c.deref-value-items.result.now c.loop-number.number v so_far.0 one.0 (omega arith) c.value-item.is so_far.1 e'3,
        adds_then c.args.out.now c.separator.new.out c.expand-in-loop-number.new.out (so_far.0 ++ before) one.0 (adds_then c.args.out.now c.loop-number.out c.separator.new.out so_far.0 before so_far.2 c.in_ok-separator-in-Repeat.ensures) one.2,
      );
      kept = keeps_then c.loop-number.invariant.kept
          (λ q h. repeat_asks s sc c.args.part.now c.in-Repeat.repeat q c.in-Repeat.is (inr (
            c.value-item.result,
            arranged_in s sc c.in-Repeat.repeat.values c.in-Repeat.repeat.order c.in_ok-values-in-Repeat.values.items c.value-item.result c.in_ok-values-in-Repeat.ensures.answer (subst (λ (l : List Value). Contains l c.value-item.result) c.deref-value-items.ensures.value (item_in c.deref-value-items.result.now c.loop-number.number c.value-item.result (omega arith) c.value-item.is)),
            subst (λ (l : List Bound). SceneAsks s record { here = c.args.here.now; loops = l } (body_of c.in-Repeat.repeat.body.items) q) (c.as_slice-in-loop-number.ensures.value ∙ c.in_ok-inner-in-Repeat.ensures)
                (subst (λ (l : List Part). SceneAsks s record { here = c.args.here.now; loops = c.as_slice-in-loop-number.result.now } (body_of l) q) c.as_slice-in-loop-number-2.ensures.value
                (subst (λ x. SceneAsks (g.V.SiteView.site x) record { here = c.args.here.now; loops = c.as_slice-in-loop-number.result.now } (body_of c.as_slice-in-loop-number-2.result.now) q) c.loop-number.invariant.fixed h)),
          )))
          c.in_ok-expand-in-Repeat.ensures.kept;
    }

pub expand_part-returns-in-Text-clause-answer : goal.expand_part-returns-in-Text-clause-answer
expand_part-returns-in-Text-clause-answer g t c =
    let fixed = g.V.SiteView.fixed c.args.view.now in
    let s = g.V.SiteView.site fixed in
    let f = g.V.SiteView.templates fixed in
    let sc : Env = record { here = c.args.here.now; loops = c.args.loops.now } in
    ok_then _ _ c.add_copy.result (λ x adds. (bytes c.in-Text.text, λ rest b h. rw c.in-Text.is (b, h, refl), adds)) c.add_copy.ensures

pub expand_part-returns-in_ok-values-in-Format-clause-kept : goal.expand_part-returns-in_ok-values-in-Format-clause-kept
expand_part-returns-in_ok-values-in-Format-clause-kept g t c =
    let fixed = g.V.SiteView.fixed c.args.view.now in
    let s = g.V.SiteView.site fixed in
    let f = g.V.SiteView.templates fixed in
    let sc : Env = record { here = c.args.here.now; loops = c.args.loops.now } in
    let x = c.in-Format.format in
    keeps_then (keeps_as (λ q h. format_asks s sc c.args.part.now x q c.in-Format.is (inl h)) c.arranged.ensures.kept)
    (λ q h. format_asks s sc c.args.part.now x q c.in-Format.is (inr (h.0, arranged_in s sc x.values x.order c.in_ok-values-in-Format.values.items h.0 c.in_ok-values-in-Format.ensures.answer (subst (λ (l : List Value). Contains l h.0) c.as_slice.ensures.value h.1), subst (λ y. ModeAsks (g.V.SiteView.site y) x.mode h.0 q) c.arranged.ensures.fixed h.2)))
    c.all_formatted.ensures.kept

pub expand_part-returns-in_ok-values-in-Format-clause-answer : goal.expand_part-returns-in_ok-values-in-Format-clause-answer
expand_part-returns-in_ok-values-in-Format-clause-answer g t c =
    let fixed = g.V.SiteView.fixed c.args.view.now in
    let s = g.V.SiteView.site fixed in
    let f = g.V.SiteView.templates fixed in
    let sc : Env = record { here = c.args.here.now; loops = c.args.loops.now } in
    let x = c.in-Format.format in
    let d = delimiter x.order.delimiter in
    let all = subst (λ y. IfOk c.all_formatted.result (λ _. (ps : List Item) × Joined (Formatted (g.V.SiteView.site y) (g.V.SiteView.templates y) x.mode) d c.as_slice.result.now ps × Adds c.args.out.now c.all_formatted.new.out ps)) c.arranged.ensures.fixed c.all_formatted.ensures.answer in
    ok_then _ _ c.all_formatted.result
    (λ _ (ps, joined, adds).
    let j = subst (λ (l : List Value). Joined (Formatted s f x.mode) d l ps) c.as_slice.ensures.value joined in
    (ps, λ rest b h. rw c.in-Format.is (c.in_ok-values-in-Format.values.items, ps, b, c.in_ok-values-in-Format.ensures.answer, j, h, refl), adds))
    all

pub expand_part-returns-in_err-values-in-Count-clause-kept : goal.expand_part-returns-in_err-values-in-Count-clause-kept
expand_part-returns-in_err-values-in-Count-clause-kept g t c =
    let s = g.V.SiteView.site (g.V.SiteView.fixed c.args.view.now) in
    let sc : Env = record { here = c.args.here.now; loops = c.args.loops.now } in
    keeps_as (λ q h. count_asks s sc c.args.part.now c.in-Count.expr q c.in-Count.is h) c.range.ensures.kept

pub expand_part-returns-in_ok-values-in-Count-clause-kept : goal.expand_part-returns-in_ok-values-in-Count-clause-kept
expand_part-returns-in_ok-values-in-Count-clause-kept g t c =
    let s = g.V.SiteView.site (g.V.SiteView.fixed c.args.view.now) in
    let sc : Env = record { here = c.args.here.now; loops = c.args.loops.now } in
    keeps_as (λ q h. count_asks s sc c.args.part.now c.in-Count.expr q c.in-Count.is h) c.range.ensures.kept

pub expand_part-returns-in_ok-values-in-Count-clause-answer : goal.expand_part-returns-in_ok-values-in-Count-clause-answer
expand_part-returns-in_ok-values-in-Count-clause-answer g t c =
    let fixed = g.V.SiteView.fixed c.args.view.now in
    let s = g.V.SiteView.site fixed in
    let f = g.V.SiteView.templates fixed in
    let sc : Env = record { here = c.args.here.now; loops = c.args.loops.now } in
    let vs = c.in_ok-values-in-Count.values.items in
    let count : c.len.result ≡ length vs = omega (arith, c.len.ensures, c.in_ok-values-in-Count.values.ok.0) in
    let added = subst (λ (n : ℕ). IfOk c.add_count.result (λ _. Adds c.args.out.now c.add_count.new.out (bytes (decimal n)))) count c.add_count.ensures in
    ok_then _ _ c.add_count.result
    (λ _ adds. (bytes (decimal (length vs)), λ rest b h. rw c.in-Count.is (vs, b, c.in_ok-values-in-Count.ensures.answer, h, refl), adds))
    added

pub expand_part-returns-then-is_taken-clause-kept : goal.expand_part-returns-then-is_taken-clause-kept
expand_part-returns-then-is_taken-clause-kept g t c =
    let fixed = g.V.SiteView.fixed c.args.view.now in
    let s = g.V.SiteView.site fixed in
    let f = g.V.SiteView.templates fixed in
    let sc : Env = record { here = c.args.here.now; loops = c.args.loops.now } in
    let x = c.in-Choice.choice in
    keeps_then (keeps_as (λ q h. choice_asks s sc c.args.part.now x q c.in-Choice.is (inl h)) c.holds.ensures.kept)
    (λ q h. choice_asks s sc c.args.part.now x q c.in-Choice.is (inr (inl (subst (λ (l : List Part). SceneAsks s sc (body_of l) q) c.as_slice-then-is_taken.ensures.value (subst (λ y. SceneAsks (g.V.SiteView.site y) sc (body_of c.as_slice-then-is_taken.result.now) q) c.holds.ensures.fixed h)))))
    c.expand.ensures.kept

pub expand_part-returns-then-is_taken-clause-answer : goal.expand_part-returns-then-is_taken-clause-answer
expand_part-returns-then-is_taken-clause-answer g t c =
    let fixed = g.V.SiteView.fixed c.args.view.now in
    let s = g.V.SiteView.site fixed in
    let f = g.V.SiteView.templates fixed in
    let sc : Env = record { here = c.args.here.now; loops = c.args.loops.now } in
    let x = c.in-Choice.choice in
    let h = c.in_ok-holds-in-Choice.ensures.answer in
    let way = taken_by x.negated c.in_ok-holds-in-Choice.holds (TestHolds s sc x.values x.test) h.0 h.1 (sym c.is_taken.ensures ∙ c.if-is_taken.true) in
    let all = subst (λ y. IfOk c.expand.result (λ _. (ps : List Item) × Expands (g.V.SiteView.site y) (g.V.SiteView.templates y) sc (body_of c.as_slice-then-is_taken.result.now) ps × Adds c.args.out.now c.expand.new.out ps)) c.holds.ensures.fixed c.expand.ensures.answer in
    ok_then _ _ c.expand.result
    (λ _ (ps, expands, adds).
    let e = subst (λ (l : List Part). Expands s f sc (body_of l) ps) c.as_slice-then-is_taken.ensures.value expands in
    (ps, choice_taken s f sc c.args.part.now x ps c.in-Choice.is way e, adds))
    all

pub expand_part-returns-else-is_taken-clause-kept : goal.expand_part-returns-else-is_taken-clause-kept
expand_part-returns-else-is_taken-clause-kept g t c =
    let fixed = g.V.SiteView.fixed c.args.view.now in
    let s = g.V.SiteView.site fixed in
    let f = g.V.SiteView.templates fixed in
    let sc : Env = record { here = c.args.here.now; loops = c.args.loops.now } in
    let x = c.in-Choice.choice in
    keeps_then (keeps_as (λ q h. choice_asks s sc c.args.part.now x q c.in-Choice.is (inl h)) c.holds.ensures.kept)
    (λ q h. choice_asks s sc c.args.part.now x q c.in-Choice.is (inr (inr (subst (λ (l : List Part). SceneAsks s sc (body_of l) q) c.as_slice-else-is_taken.ensures.value (subst (λ y. SceneAsks (g.V.SiteView.site y) sc (body_of c.as_slice-else-is_taken.result.now) q) c.holds.ensures.fixed h)))))
    c.expand-else-is_taken.ensures.kept

pub expand_part-returns-else-is_taken-clause-answer : goal.expand_part-returns-else-is_taken-clause-answer
expand_part-returns-else-is_taken-clause-answer g t c =
    let fixed = g.V.SiteView.fixed c.args.view.now in
    let s = g.V.SiteView.site fixed in
    let f = g.V.SiteView.templates fixed in
    let sc : Env = record { here = c.args.here.now; loops = c.args.loops.now } in
    let x = c.in-Choice.choice in
    let h = c.in_ok-holds-in-Choice.ensures.answer in
    let way = not_taken_by x.negated c.in_ok-holds-in-Choice.holds (TestHolds s sc x.values x.test) h.0 h.1 (sym c.is_taken.ensures ∙ c.if-is_taken.false) in
    let all = subst (λ y. IfOk c.expand-else-is_taken.result (λ _. (ps : List Item) × Expands (g.V.SiteView.site y) (g.V.SiteView.templates y) sc (body_of c.as_slice-else-is_taken.result.now) ps × Adds c.args.out.now c.expand-else-is_taken.new.out ps)) c.holds.ensures.fixed c.expand-else-is_taken.ensures.answer in
    ok_then _ _ c.expand-else-is_taken.result
    (λ _ (ps, expands, adds).
    let e = subst (λ (l : List Part). Expands s f sc (body_of l) ps) c.as_slice-else-is_taken.ensures.value expands in
    (ps, choice_other s f sc c.args.part.now x ps c.in-Choice.is way e, adds))
    all

pub expand_part-returns-after-loop-number-clause-answer : goal.expand_part-returns-after-loop-number-clause-answer
expand_part-returns-after-loop-number-clause-answer g t c =
    let fixed = g.V.SiteView.fixed c.args.view.now in
    let s = g.V.SiteView.site fixed in
    let f = g.V.SiteView.templates fixed in
    let sc : Env = record { here = c.args.here.now; loops = c.args.loops.now } in
    let x = c.in-Repeat.repeat in
    let P = λ (w : Value) (is : List Item). Expands s f (binding sc x.number w) (body_of x.body.items) is in
    let so_far = c.loop-number.invariant.joined in
    let all = take_all c.loop-number.number c.deref-value-items.result.now (omega arith) ∙ c.deref-value-items.ensures.value in
    (so_far.0, repeated s f sc c.args.part.now x c.in_ok-values-in-Repeat.values.items so_far.0 c.in-Repeat.is c.in_ok-values-in-Repeat.ensures.answer (subst (λ (l : List Value). Joined P (delimiter x.order.delimiter) l so_far.0) all so_far.1), so_far.2)
