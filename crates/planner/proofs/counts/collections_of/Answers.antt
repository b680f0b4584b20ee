use Rattle.std.proofs.Common.{refl}
use Rattle.std.proofs.lemmas.Option.{slice_get_read}
use Rattle.planner.specs.Counting.{priced_collection, MemberCount}
use Rattle.planner.proofs.Counting.{counts-none, counts-step}
use Rattle.planner.proofs.counts.collections_of.Goals as goal

pub loop-condition-init : goal.loop-condition-init
loop-condition-init g c = rw c.new-counted.ensures.items (counts-none priced_collection (MemberCount (g.S.Store.graph c.args.store.now)))

pub loop-condition-preserved : goal.loop-condition-preserved
loop-condition-preserved g c =
    counts-step priced_collection (MemberCount (g.S.Store.graph c.args.store.now)) _ _ _ _ _ (slice_get_read _ _ _ _ refl c.loop-condition-test.true c.condition-item.is) c.loop-condition.invariant c.in_ok-add_collection.ensures
