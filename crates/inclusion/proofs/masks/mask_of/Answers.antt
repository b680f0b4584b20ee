use Rattle.std.proofs.Common.{arith, ◌<◌, refl}
use Rattle.automaton.specs.PositionSet.{Has}
use Rattle.inclusion.proofs.Bits.{with_bit_lt, more_lt, has_turn, has_skip}
use Rattle.inclusion.proofs.masks.mask_of.Goals as goal
use Rattle.inclusion.proofs.masks.mask_of.Goals.{then-contains, else-contains}

pub loop-i-preserved : goal.loop-i-preserved
loop-i-preserved c =
    let small : c.loop-i.i < 32 = omega arith in
    elim c.if-contains.branch [
      | then-contains w ↦
          rw w.mask-is (record {
            below = with_bit_lt c.loop-i.mask c.loop-i.i small c.loop-i.invariant.below;
            bits = has_turn (Has c.args.set.now) c.loop-i.i c.loop-i.mask small c.loop-i.invariant.bits (w.if-contains.ensures.0 refl);
          })
      | else-contains w ↦
          rw w.mask-is (record {
            below = more_lt c.loop-i.mask c.loop-i.i c.loop-i.invariant.below;
            bits = has_skip (Has c.args.set.now) c.loop-i.i c.loop-i.mask c.loop-i.invariant.bits (λ h. let off = w.if-contains.ensures.1 h in cc);
          })
    ]
