use Rattle.std.proofs.Common.{◌≡◌, length}
use Rattle.serde_json.specs.View.{items_view}
use Rattle.json_source.specs.Tables.{are_objects}
use Rattle.json_source.proofs.tables.are_objects.Given as goal

abbrev pub invariant-items : goal.invariant-items
invariant-items l = are_objects (items_view l.items) ≡ are_objects (items_view l.rest)

abbrev pub decreases-items : goal.decreases-items
decreases-items l = length l.rest
