use Rattle.std.proofs.Common.{◌^◌, ◌<◌}
use Rattle.automaton.specs.PositionSet.{Has}
use Rattle.inclusion.proofs.Bits.{HasBelow}
use Rattle.inclusion.proofs.masks.mask_of.Given as goal

abbrev pub invariant-loop-i : goal.invariant-loop-i
invariant-loop-i l = record {
  below : l.mask < 2 ^ l.i;
  bits : HasBelow (Has l.set) l.i l.mask;
}
