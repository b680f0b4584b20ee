use Rattle.std.proofs.Common.{◌∷◌, [], false, List, sym, subst}
use Rattle.tmpl.specs.declared.Part.{Part}
use Rattle.tmpl.specs.declared.SortKey.{SortKey}
use Rattle.tmpl.specs.Body.{body_of}
use Rattle.tmpl.specs.Expressions.{uses, part_uses, key_words, AddsUses}
use Rattle.tmpl.proofs.Gathering.{adds_more, ok_then, choice_adds, repeat_adds}
use Rattle.tmpl.proofs.uses.+push_uses.Goals as goal

pub push_uses-loop-part-preserved : goal.push_uses-loop-part-preserved
push_uses-loop-part-preserved t c =
    adds_more c.args.parts.now c.loop-part.part-index c.part-item.result c.args.found.now.items c.loop-part.found.items
    c.push_part.new.found.items c.loop-part-test.true c.part-item.is c.loop-part.invariant c.in_ok-push_part.ensures

pub push_part-returns-in_ok-push_uses-in-Choice : goal.push_part-returns-in_ok-push_uses-in-Choice
push_part-returns-in_ok-push_uses-in-Choice t c =
    let x = c.in-Choice.choice in
    let a = c.args.found.now.items in
    let b = c.push_test.new.found.items in
    let m = c.push_uses.new.found.items in
    let d = c.push_uses-in-Choice.new.found.items in
    let first : AddsUses b m (uses (body_of x.taken.items)) = subst (λ (l : List Part). AddsUses b m (uses (body_of l)))
    c.as_slice.ensures.value c.in_ok-push_uses-in-Choice.ensures in
    ok_then c.push_uses-in-Choice.result _ _ c.push_uses-in-Choice.ensures
    (λ u h. subst (λ (p : Part). AddsUses a d (part_uses p)) (sym c.in-Choice.is)
    (choice_adds x a b m d c.in_ok-push_test-in-Choice.ensures first
    (subst (λ (l : List Part). AddsUses m d (uses (body_of l))) c.as_slice-in-Choice.ensures.value h)))

pub push_part-returns-in_ok-push_values-in-Repeat :
    goal.push_part-returns-in_ok-push_values-in-Repeat
push_part-returns-in_ok-push_values-in-Repeat t c =
    let x = c.in-Repeat.repeat in
    let a = c.args.found.now.items in
    let b = c.push_values-in-Repeat.new.found.items in
    let d = c.push_uses-in-Repeat.new.found.items in
    ok_then c.push_uses-in-Repeat.result _ _ c.push_uses-in-Repeat.ensures
    (λ u h. subst (λ (p : Part). AddsUses a d (part_uses p)) (sym c.in-Repeat.is)
    (repeat_adds x a b d (subst (λ (k : List SortKey). AddsUses a b (record { expr = x.values; onward = key_words k; embeds = false } ∷ []))
    c.list.ensures c.in_ok-push_values-in-Repeat.ensures)
    (subst (λ (l : List Part). AddsUses b d (uses (body_of l))) c.as_slice-in-Repeat.ensures.value h)))
