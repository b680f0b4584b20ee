use Rattle.std.proofs.Common.{arith, ◌≡◌, ◌<◌, length, Some, slice_get, slice_index, refl}
use Rattle.std.proofs.lemmas.List.{get_or_read}
use Rattle.std.proofs.lemmas.Option.{slice_get_read}
use Rattle.inclusion.proofs.Trail.{trail_end, trail_place, trail_back, trail_first}
use Rattle.inclusion.proofs.spelled.spelled.Goals as goal

pub loop-word-init : goal.loop-word-init
loop-word-init c =
    record {
      within = c.requires.within;
      refuses = rw c.new-word.ensures.items (trail_end c.args.a.now c.args.b.now c.args.order.now.items c.args.from.now.items c.args.end c.requires);
    }

pub label_at-requires : goal.label_at-requires
label_at-requires c =
    let order = c.args.order.now.items in
    let pair : slice_get order c.loop-word.place ≡ Some c.index-in-loop-word.result.now = slice_get_read order _ c.loop-word.place _ refl c.loop-word.invariant.within c.index-in-loop-word.ensures in
    trail_place c.args.a.now c.args.b.now order c.args.from.now.items c.args.end c.requires c.loop-word.place _ pair

pub label_at-requires-2 : goal.label_at-requires-2
label_at-requires-2 c =
    let order = c.args.order.now.items in
    let pair : slice_get order c.loop-word.place ≡ Some c.index-2.result.now = slice_get_read order _ c.loop-word.place _ refl c.loop-word.invariant.within c.index-2.ensures in
    trail_place c.args.a.now c.args.b.now order c.args.from.now.items c.args.end c.requires c.loop-word.place _ pair

pub loop-word-smaller : goal.loop-word-smaller
loop-word-smaller c =
    let order = c.args.order.now.items in
    let from = c.args.from.now.items in
    let k = c.loop-word.place in
    let x = c.index-in-loop-word.result.now in
    let long : k < length from = omega (arith, c.requires.len, c.loop-word.invariant.within) in
    let tested : c.index.result.now ≡ slice_index from k = get_or_read from k _ long c.index.ensures 0 in
    let number : c.index-in-loop-word-2.result.now ≡ slice_index from k = get_or_read from k _ long c.index-in-loop-word-2.ensures 0 in
    let more : 0 < slice_index from k = omega (arith, c.loop-word-test.true) in
    let pair : slice_get order k ≡ Some x = slice_get_read order _ k _ refl c.loop-word.invariant.within c.index-in-loop-word.ensures in
    let back = trail_back c.args.a.now c.args.b.now order from c.args.end c.requires c.in_ok-other.other c.in_ok-other.ensures k c.loop-word.word.items c.in_ok-label_at.field-0 x
    more pair (c.loop-word.invariant.refuses x pair) c.in_ok-label_at.ensures in
    rw number back.1

pub loop-word-preserved : goal.loop-word-preserved
loop-word-preserved c =
    let order = c.args.order.now.items in
    let from = c.args.from.now.items in
    let k = c.loop-word.place in
    let x = c.index-in-loop-word.result.now in
    let long : k < length from = omega (arith, c.requires.len, c.loop-word.invariant.within) in
    let tested : c.index.result.now ≡ slice_index from k = get_or_read from k _ long c.index.ensures 0 in
    let number : c.index-in-loop-word-2.result.now ≡ slice_index from k = get_or_read from k _ long c.index-in-loop-word-2.ensures 0 in
    let more : 0 < slice_index from k = omega (arith, c.loop-word-test.true) in
    let pair : slice_get order k ≡ Some x = slice_get_read order _ k _ refl c.loop-word.invariant.within c.index-in-loop-word.ensures in
    let back = trail_back c.args.a.now c.args.b.now order from c.args.end c.requires c.in_ok-other.other c.in_ok-other.ensures k c.loop-word.word.items c.in_ok-label_at.field-0 x
    more pair (c.loop-word.invariant.refuses x pair) c.in_ok-label_at.ensures in
    rw (number, c.in_ok-push.ensures.items) (record { within = back.0; refuses = back.2 })

pub returns : goal.returns
returns c =
    let order = c.args.order.now.items in
    let from = c.args.from.now.items in
    let k = c.loop-word.place in
    let x = c.index-2.result.now in
    let long : k < length from = omega (arith, c.requires.len, c.loop-word.invariant.within) in
    let tested : c.index.result.now ≡ slice_index from k = get_or_read from k _ long c.index.ensures 0 in
    let none : slice_index from k ≡ 0 = omega (arith, c.loop-word-test.false) in
    let pair : slice_get order k ≡ Some x = slice_get_read order _ k _ refl c.loop-word.invariant.within c.index-2.ensures in
    rw (c.reverse.ensures.items, c.in_ok-push-2.ensures.items)
    (trail_first c.args.a.now c.args.b.now order from c.args.end c.requires c.in_ok-other.other c.in_ok-other.ensures k c.loop-word.word.items c.in_ok-label_at-2.field-0 x
    none pair (c.loop-word.invariant.refuses x pair) c.in_ok-label_at-2.ensures)
