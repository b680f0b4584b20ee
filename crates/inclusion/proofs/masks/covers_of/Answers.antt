use Rattle.std.proofs.Common.{arith, ◌<◌, refl}
use Rattle.inclusion.specs.Masks.{CoversAt}
use Rattle.inclusion.proofs.Bits.{with_bit_lt, more_lt, has_turn, has_skip}
use Rattle.inclusion.proofs.Inclusion.{covers_only, covers_within}
use Rattle.inclusion.proofs.masks.covers_of.Goals as goal
use Rattle.inclusion.proofs.masks.covers_of.Goals.{then-is_covered, else-is_covered}

pub loop-i-preserved : goal.loop-i-preserved
loop-i-preserved c =
    let letters = c.args.a.now.letters in
    let others = c.args.b.now.letters in
    let small : c.loop-i.i < 32 = omega arith in
    elim c.if-is_covered.branch [
      | then-is_covered w ↦
          rw w.mask-is (record {
            below = with_bit_lt c.loop-i.mask c.loop-i.i small c.loop-i.invariant.below;
            bits = has_turn (CoversAt letters c.args.p others) c.loop-i.i c.loop-i.mask small c.loop-i.invariant.bits
                (_, _, c.letter-letter.ensures, c.letter.ensures, w.if-is_covered.ensures.0 refl);
          })
      | else-is_covered w ↦
          rw w.mask-is (record {
            below = more_lt c.loop-i.mask c.loop-i.i c.loop-i.invariant.below;
            bits = has_skip (CoversAt letters c.args.p others) c.loop-i.i c.loop-i.mask c.loop-i.invariant.bits
                (λ h. let off = w.if-is_covered.ensures.1 (covers_only letters others c.args.p c.loop-i.i _ _ c.letter-letter.ensures c.letter.ensures h) in cc);
          })
    ]

pub returns-clause-bits : goal.returns-clause-bits
returns-clause-bits c =
    let letters = c.args.a.now.letters in
    let others = c.args.b.now.letters in
    (λ i. (
      λ h. ((c.loop-i.invariant.bits i).0 h).1,
      λ k. let within = covers_within letters others c.args.p i k in (c.loop-i.invariant.bits i).1 (omega arith, k),
    ))
