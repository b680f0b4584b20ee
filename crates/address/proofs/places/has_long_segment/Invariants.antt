use Rattle.std.proofs.Common.{◌↔◌, ◌≤◌, drop}
use Rattle.page_spec.specs.declared.TheConstants.{NAME_LIMIT}
use Rattle.address.specs.Segments.{HasLongSegment}
use Rattle.address.proofs.Runs.{IsLongAfter}
use Rattle.address.proofs.places.has_long_segment.Given as goal

abbrev pub invariant-loop-b : goal.invariant-loop-b
invariant-loop-b l = record {
  small : l.run ≤ NAME_LIMIT;
  long : IsLongAfter l.run (drop l.b-index l.path) ↔ HasLongSegment l.path;
}
