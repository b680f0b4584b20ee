use Rattle.std.proofs.Common.{arith, ℕ, ◌^◌, ◌<◌, ◌↔◌, length}
use Rattle.std.proofs.lemmas.List.{length_push}
use Rattle.inclusion.specs.Masks.{Bit, CoversAt}
use Rattle.inclusion.proofs.Bits.{row_pushed}
use Rattle.inclusion.proofs.masks.all_covers.Goals as goal

pub loop-p-preserved : goal.loop-p-preserved
loop-p-preserved c =
    let letters = c.args.a.now.letters in
    let others = c.args.b.now.letters in
    let rows = c.loop-p.covers.items in
    let p = c.loop-p.p in
    let mask = c.covers_of.result in
    let below = row_pushed (λ p mask. mask < 2 ^ length others) rows p mask c.loop-p.invariant.len c.loop-p.invariant.below c.covers_of.ensures.below in
    let bits = row_pushed (λ p mask. (i : ℕ) → Bit mask i ↔ CoversAt letters p others i) rows p mask c.loop-p.invariant.len
    (λ k small i. c.loop-p.invariant.bits k i small) c.covers_of.ensures.bits in
    rw c.in_ok-push.ensures.items (record {
      len = omega (arith, length_push rows mask);
      below = below;
      bits = λ k i small. bits k small i;
    })
