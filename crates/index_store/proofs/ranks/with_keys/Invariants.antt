use Rattle.std.proofs.Common.{take}
use Rattle.index_store.specs.Ranks.{targets, AreKeyed}
use Rattle.index_store.proofs.ranks.with_keys.Given as goal

abbrev pub invariant-loop-place : goal.invariant-loop-place
invariant-loop-place g l = AreKeyed (targets l.items) (take l.place-index l.places) l.keyed.items
