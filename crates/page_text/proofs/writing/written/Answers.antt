use Rattle.std.proofs.Common.{◌≡◌, ◌<◌, ◌+◌, ◌∷◌, length, drop, ap, ◌∙◌, arith, append-nil}
use Rattle.std.proofs.lemmas.List.Elements.{All-nil, All-push, All-pop}
use Rattle.page_text.specs.declared.draft.Fragment.TheVariants.{Whole}
use Rattle.page_text.specs.declared.writing.Cursor.{Cursor}
use Rattle.page_text.specs.Places.{fragments_at, after, steps, steps_of, steps_after, steps_after_all}
use Rattle.page_text.proofs.Progress.{ordered, whole_after, next_before, steps_push, entering_steps, entered, left_again}
use Rattle.page_text.proofs.writing.written.Goals as goal

pub loop-text-init : goal.loop-text-init
loop-text-init c = record {
  top_there = c.requires.in_range;
  stack_there = rw c.new-stack.ensures.items (All-nil (λ (p : Cursor). p.number < length c.args.drafts.now));
  rest = λ ts all short. rw (c.new-out.ensures.items, c.new-stack.ensures.items) (append-nil (after ts c.args.drafts.now record { number = c.args.number; at = 0 }) ∙ whole_after c.args.drafts.now ts c.args.number all c.requires.in_range short);
}

pub overflow_add-top : goal.overflow_add-top
overflow_add-top c = omega (arith, c.in-Some-Stretch.ensures.small)

pub overflow_add-top-in-Some-Whole : goal.overflow_add-top-in-Some-Whole
overflow_add-top-in-Some-Whole c = omega (arith, c.in-Some-Whole.ensures.small)

pub loop-text-smaller-in-Some-Whole : goal.loop-text-smaller-in-Some-Whole
loop-text-smaller-in-Some-Whole c =
    let ds = c.args.drafts.now in
    let n = c.loop-text.top.number in
    let at = c.loop-text.top.at in
    let k = c.in-Some-Whole.inner in
    let part : drop at (fragments_at ds n) ≡ Whole k ∷ drop (at + 1) (fragments_at ds n) = rw c.in-Some-Whole.field-0-is at c.in-Some-Whole.ensures.part in
    let o = ordered ds c.requires.texts.0 c.requires.texts.1 in
    let inner : steps_after ds record { number = k; at = 0 } ≡ steps_of ds n k = entering_steps ds n at k (drop (at + 1) (fragments_at ds n)) o part in
    let stack : steps_after_all ds c.push.new.self.items ≡ steps_after_all ds c.loop-text.stack.items + steps_after ds record { number = n; at = at + 1 } =
    ap (steps_after_all ds) c.in_ok-push-in-Some-Whole.ensures.items ∙ steps_push ds c.loop-text.stack.items record { number = n; at = at + 1 } in
    let top : steps_after ds c.loop-text.top ≡ 1 + steps (steps_of ds n) (Whole k ∷ drop (at + 1) (fragments_at ds n)) = ap (λ fs. 1 + steps (steps_of ds n) fs) part in
    omega (arith, inner, stack, top)

pub loop-text-preserved-in-Some-Whole : goal.loop-text-preserved-in-Some-Whole
loop-text-preserved-in-Some-Whole c =
    let ds = c.args.drafts.now in
    let n = c.loop-text.top.number in
    let at = c.loop-text.top.at in
    let k = c.in-Some-Whole.inner in
    let part : drop at (fragments_at ds n) ≡ Whole k ∷ drop (at + 1) (fragments_at ds n) = rw c.in-Some-Whole.field-0-is at c.in-Some-Whole.ensures.part in
    let o = ordered ds c.requires.texts.0 c.requires.texts.1 in
    let small : k < n = next_before ds n at k (drop (at + 1) (fragments_at ds n)) o part in
    let there : k < length ds = omega (arith, small, c.loop-text.invariant.top_there) in
    record {
      top_there = there;
      stack_there = rw c.in_ok-push-in-Some-Whole.ensures.items (All-push (λ (p : Cursor). p.number < length ds) c.loop-text.stack.items record { number = n; at = at + 1 } c.loop-text.invariant.stack_there c.loop-text.invariant.top_there);
      rest = λ ts all short. rw c.in_ok-push-in-Some-Whole.ensures.items (entered ts ds c.loop-text.out.items n at k c.loop-text.stack.items _ all there part (c.loop-text.invariant.rest ts all short) short);
    }

pub loop-text-smaller : goal.loop-text-smaller
loop-text-smaller c =
    let ds = c.args.drafts.now in
    let stack : steps_after_all ds c.loop-text.stack.items ≡ steps_after_all ds c.pop.new.self.items + steps_after ds c.in-Some.outer =
    ap (steps_after_all ds) c.in-Some.ensures.items ∙ steps_push ds c.pop.new.self.items c.in-Some.outer in
    omega (arith, stack)

pub loop-text-preserved : goal.loop-text-preserved
loop-text-preserved c =
    let ds = c.args.drafts.now in
    let popped = All-pop (λ (p : Cursor). p.number < length ds) c.loop-text.stack.items c.pop.new.self.items c.pop.result c.pop.ensures.items c.loop-text.invariant.stack_there in
    record {
      top_there = rw c.in-Some.is at popped.1;
      stack_there = popped.0;
      rest = λ ts all short. left_again ts ds c.loop-text.out.items c.loop-text.top c.in-Some.outer c.loop-text.stack.items c.pop.new.self.items _ c.in-None.ensures.part c.in-Some.ensures.items (c.loop-text.invariant.rest ts all short);
    }
