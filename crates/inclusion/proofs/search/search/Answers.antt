use Rattle.std.proofs.Common.{arith, ◌≡◌, ◌+◌, ◌*◌, ◌<◌, ◌≤◌, ◌^◌, [], length, sym, ap, subst}
use Rattle.std.proofs.lemmas.List.{length-append}
use Rattle.automaton.specs.PositionSet.{Has}
use Rattle.inclusion.specs.Search.{Fills}
use Rattle.inclusion.proofs.Bits.{after_alone}
use Rattle.inclusion.proofs.Inclusion.{IsPlaced, Finishes}
use Rattle.inclusion.proofs.Pairs.{searched_start, searched_turn, searched_all, ends_too, trail_to}
use Rattle.inclusion.proofs.search.search.Goals as goal

pub loop-done-init : goal.loop-done-init
loop-done-init c =
    let a = c.args.a.now in
    let b = c.args.b.now in
    let marks = c.in_ok-marks.marks in
    let size : length marks.items ≡ c.sets_of-width.result * length a.letters =
    omega (arith, marks.ok.0, c.in_ok-marks.ensures.len, ap (λ n. c.sets_of-width.result * n) c.positions-2.ensures.value) in
    let count : c.len.result ≡ length c.add_pairs.new.order.items = omega (arith, c.len.ensures, c.add_pairs.new.order.ok.0) in
    let fills : Fills [] c.fill.new.from.items (length c.add_pairs.new.order.items) 0 =
    subst (λ n. Fills [] c.fill.new.from.items n 0) count (rw c.new-from.ensures.items at c.in_ok-fill.ensures) in
    record {
      searched = searched_start a b c.in_ok-masks.masks c.in_ok-masks.ensures c.sets_of-width.result marks.items c.add_pairs.new.marks.items c.add_pairs.new.order.items
          c.fill.new.from.items size
          c.in_ok-add_pairs.ensures.listed (rw (c.new-order.ensures.items, c.begins.ensures) at c.in_ok-add_pairs.ensures.grows) (rw c.begins.ensures at c.in_ok-add_pairs.ensures.each)
          fills;
      within = omega arith;
    }

pub ends_alone-requires : goal.ends_alone-requires
ends_alone-requires c =
    let x = c.index-pair.result.now in
    let order = c.loop-done.order in
    let small : c.loop-done.done < length order.items = omega (arith, order.ok.0) in
    let placed : IsPlaced c.args.a.now c.args.b.now x = c.loop-done.invariant.searched.placed x (c.loop-done.done, small, sym c.index-pair.ensures) in
    placed.place

pub alone-requires : goal.alone-requires
alone-requires c =
    let x = c.index-pair.result.now in
    let order = c.loop-done.order in
    let small : c.loop-done.done < length order.items = omega (arith, order.ok.0) in
    let placed : IsPlaced c.args.a.now c.args.b.now x = c.loop-done.invariant.searched.placed x (c.loop-done.done, small, sym c.index-pair.ensures) in
    omega (arith, placed.place)

pub spelled-requires : goal.spelled-requires
spelled-requires c =
    let order = c.loop-done.order in
    let small : c.loop-done.done < length order.items = omega (arith, order.ok.0) in
    let alone = c.ends_alone.ensures.0 c.if-ends_alone.true in
    trail_to c.args.a.now c.args.b.now c.in_ok-masks.masks c.in_ok-masks.ensures c.sets_of-width.result c.loop-done.marks.items order.items c.loop-done.from.items c.loop-done.done
    c.index-pair.result.now c.loop-done.invariant.searched small c.index-pair.ensures alone.0 alone.1

pub loop-done-preserved : goal.loop-done-preserved
loop-done-preserved c =
    let a = c.args.a.now in
    let b = c.args.b.now in
    let m = c.in_ok-masks.masks in
    let x = c.index-pair.result.now in
    let order = c.loop-done.order in
    let order2 = c.add_pairs-in-loop-done.new.order in
    let small : c.loop-done.done < length order.items = omega (arith, order.ok.0) in
    let placed : IsPlaced a b x = c.loop-done.invariant.searched.placed x (c.loop-done.done, small, sym c.index-pair.ensures) in
    let width : 2 ^ length b.letters ≤ 65536 = omega (arith, c.sets_of-width.ensures.bound, rw c.positions.ensures.value at c.sets_of-width.ensures.value) in
    let set : x.set < 2 ^ 32 = omega (arith, placed.set) in
    let ends : Has a.last x.position → Finishes b x.set [] = (λ last. ends_too a b m c.in_ok-masks.ensures c.sets_of-width.result x set (λ e. let on = c.ends_alone.ensures.1 (last, e) in cc)) in
    let grown = c.in_ok-add_pairs-2.ensures.grows in
    let count : c.len-in-loop-done-2.result ≡ length order2.items = omega (arith, c.len-in-loop-done-2.ensures, order2.ok.0) in
    let fills : Fills c.loop-done.from.items c.fill-in-loop-done.new.from.items (length order2.items) (c.loop-done.done + 1) =
    subst (λ n. Fills c.loop-done.from.items c.fill-in-loop-done.new.from.items n (c.loop-done.done + 1)) count c.in_ok-fill-2.ensures in
    let next = searched_turn a b m c.in_ok-masks.ensures c.sets_of-width.result c.loop-done.marks.items c.add_pairs-in-loop-done.new.marks.items
    order.items order2.items c.loop-done.from.items c.fill-in-loop-done.new.from.items c.loop-done.done x c.after-follow.result c.reach_of-reach.result
    c.loop-done.invariant.searched small c.index-pair.ensures ends c.reach_of-reach.ensures
    (after_alone a.next c.alone.result c.after-follow.result x.position c.alone.ensures c.after-follow.ensures)
    c.in_ok-add_pairs-2.ensures.listed grown c.in_ok-add_pairs-2.ensures.each fills in
    record {
      searched = next;
      within = rw grown.more.1 (omega (arith, length-append order.items grown.more.0));
    }

pub returns : goal.returns
returns c =
    searched_all c.args.a.now c.args.b.now c.in_ok-masks.masks c.in_ok-masks.ensures c.sets_of-width.result c.loop-done.marks.items c.loop-done.order.items
    c.loop-done.from.items c.loop-done.done c.requires.empty c.loop-done.invariant.searched (omega (arith, c.loop-done.order.ok.0))
