use Rattle.std.proofs.Common.{◌≡◌, ℕ, ◌^◌, ◌<◌, ◌↔◌, length, slice_index}
use Rattle.inclusion.specs.Masks.{Bit, CoversAt}
use Rattle.inclusion.proofs.masks.all_covers.Given as goal

abbrev pub invariant-loop-p : goal.invariant-loop-p
invariant-loop-p l = record {
  len : length l.covers.items ≡ l.p;
  below : (p : ℕ) → p < l.p → slice_index l.covers.items p < 2 ^ length l.b.letters;
  bits : (p i : ℕ) → p < l.p → Bit (slice_index l.covers.items p) i ↔ CoversAt l.a.letters p l.b.letters i;
}
