use Rattle.std.proofs.Common.{arith, ℕ, ◌<◌, ◌↔◌, length}
use Rattle.std.proofs.lemmas.List.{length_push}
use Rattle.automaton.specs.PositionSet.{Has}
use Rattle.automaton.specs.Table.{row}
use Rattle.inclusion.specs.Masks.{Bit}
use Rattle.inclusion.proofs.Bits.{row_pushed, after_alone}
use Rattle.inclusion.proofs.masks.next_of.Goals as goal

pub loop-r-preserved : goal.loop-r-preserved
loop-r-preserved c =
    let b = c.args.b.now in
    let rows = c.loop-r.next.items in
    let r = c.loop-r.r in
    let mask = c.mask_of.result in
    let one = after_alone b.next c.alone.result c.after.result r c.alone.ensures c.after.ensures in
    let here : (i : ℕ) → Bit mask i ↔ ((i < length b.letters) × Has (row b.next r) i) = (λ i. (
      λ h. let k = (c.mask_of.ensures.bits i).0 h in (omega (arith, k.0), (one i).0 k.1),
      λ k. (c.mask_of.ensures.bits i).1 (omega (arith, k.0), (one i).1 k.1),
    )) in
    let all = row_pushed (λ r mask. (i : ℕ) → Bit mask i ↔ ((i < length b.letters) × Has (row b.next r) i)) rows r mask c.loop-r.invariant.len
    (λ k small i. c.loop-r.invariant.bits k i small) here in
    rw c.in_ok-push.ensures.items (record {
      len = omega (arith, length_push rows mask);
      bits = λ k i small. all k small i;
    })
