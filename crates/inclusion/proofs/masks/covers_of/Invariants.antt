use Rattle.std.proofs.Common.{◌^◌, ◌<◌}
use Rattle.inclusion.specs.Masks.{CoversAt}
use Rattle.inclusion.proofs.Bits.{HasBelow}
use Rattle.inclusion.proofs.masks.covers_of.Given as goal

abbrev pub invariant-loop-i : goal.invariant-loop-i
invariant-loop-i l = record {
  below : l.mask < 2 ^ l.i;
  bits : HasBelow (CoversAt l.a.letters l.p l.b.letters) l.i l.mask;
}
