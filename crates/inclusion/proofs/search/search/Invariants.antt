use Rattle.std.proofs.Common.{◌+◌, ◌-◌, ◌≤◌, length}
use Rattle.inclusion.specs.Search.{unmarked}
use Rattle.inclusion.proofs.Pairs.{IsUnderway}
use Rattle.inclusion.proofs.search.search.Given as goal

abbrev pub invariant-loop-done : goal.invariant-loop-done
invariant-loop-done l = record {
  searched : IsUnderway l.a l.b l.masks l.width l.marks.items l.order.items l.from.items l.done;
  within : l.done ≤ length l.order.items;
}

abbrev pub decreases-loop-done : goal.decreases-loop-done
decreases-loop-done l = unmarked l.marks.items + (length l.order.items - l.done)
