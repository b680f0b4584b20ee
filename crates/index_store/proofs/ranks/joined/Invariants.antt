use Rattle.std.proofs.Common.{◌≡◌, length}
use Rattle.index_store.specs.Ranks.{AreJoined}
use Rattle.index_store.proofs.ranks.joined.Given as goal

abbrev pub invariant-loop-place : goal.invariant-loop-place
invariant-loop-place l = AreJoined l.ranks l.place l.joined.items × (length l.joined.items ≡ l.place)
