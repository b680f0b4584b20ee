use Rattle.std.proofs.Common.{◌≡◌, length}
use Rattle.serde_json.specs.View.{items_view}
use Rattle.json_source.specs.Orders.{are_shown}
use Rattle.json_source.proofs.orders.are_shown.Given as goal

abbrev pub invariant-items : goal.invariant-items
invariant-items l = are_shown (items_view l.items) ≡ are_shown (items_view l.rest)

abbrev pub decreases-items : goal.decreases-items
decreases-items l = length l.rest
