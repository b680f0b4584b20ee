use Rattle.std.proofs.Common.{take, map}
use Rattle.struql_ast.specs.Reading.{condition_of}
use Rattle.planner.specs.Counting.{priced_collection, MemberCount, AreCountsOf}
use Rattle.planner.proofs.counts.collections_of.Given as goal

abbrev pub invariant-loop-condition : goal.invariant-loop-condition
invariant-loop-condition g l = AreCountsOf priced_collection (MemberCount (g.S.Store.graph l.store)) (map condition_of (take l.condition-index l.conditions)) l.counted.items
