use Rattle.std.proofs.Common.{◌≡◌, ℕ, ◌<◌, length}
use Rattle.std.specs.Prelude.{slice_index}
use Rattle.index_store.proofs.ranks.inverse.Given as goal

abbrev pub invariant-loop-rank : goal.invariant-loop-rank
invariant-loop-rank l = (length l.ranks.items ≡ l.count) × ((r : ℕ) → r < l.rank → slice_index l.ranks.items (slice_index l.order r) ≡ r)
