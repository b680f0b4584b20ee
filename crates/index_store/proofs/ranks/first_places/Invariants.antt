use Rattle.index_store.specs.Ranks.{targets, AreApart}
use Rattle.index_store.proofs.FirstLaws.{AreNumbered}
use Rattle.index_store.proofs.ranks.first_places.Given as goal

abbrev pub invariant-loop-place : goal.invariant-loop-place
invariant-loop-place g l = AreNumbered (targets l.items) l.place (targets l.set.keys) l.firsts.items l.originals.items × AreApart (targets l.set.keys)
