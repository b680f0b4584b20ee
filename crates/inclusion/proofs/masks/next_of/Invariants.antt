use Rattle.std.proofs.Common.{◌≡◌, ℕ, ◌<◌, ◌↔◌, length, slice_index}
use Rattle.automaton.specs.PositionSet.{Has}
use Rattle.automaton.specs.Table.{row}
use Rattle.inclusion.specs.Masks.{Bit}
use Rattle.inclusion.proofs.masks.next_of.Given as goal

abbrev pub invariant-loop-r : goal.invariant-loop-r
invariant-loop-r l = record {
  len : length l.next.items ≡ l.r;
  bits : (r i : ℕ) → r < l.r → Bit (slice_index l.next.items r) i ↔ ((i < length l.b.letters) × Has (row l.b.next r) i);
}
