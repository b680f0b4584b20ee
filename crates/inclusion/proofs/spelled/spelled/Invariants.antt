use Rattle.std.proofs.Common.{◌≡◌, ◌<◌, length, Some, slice_get, reverse}
use Rattle.inclusion.specs.declared.search.Pair.{Pair}
use Rattle.inclusion.proofs.Inclusion.{Refuses}
use Rattle.inclusion.proofs.spelled.spelled.Given as goal

abbrev pub invariant-loop-word : goal.invariant-loop-word
invariant-loop-word l = record {
  within : l.place < length l.order.items;
  refuses : (x : Pair) → slice_get l.order.items l.place ≡ Some x → Refuses l.a l.b x (reverse l.word.items);
}

abbrev pub decreases-loop-word : goal.decreases-loop-word
decreases-loop-word l = l.place
