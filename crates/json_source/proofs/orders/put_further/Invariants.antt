use Rattle.std.proofs.Common.{◌≡◌, ◌++◌, length}
use Rattle.serde_json.specs.View.{items_view}
use Rattle.json_source.specs.Orders.{further}
use Rattle.json_source.proofs.orders.put_further.Given as goal

abbrev pub invariant-items : goal.invariant-items
invariant-items l =
    l.out.items ++ further (items_view l.rest) ≡ l.fn.out.items ++ further (items_view l.items)

abbrev pub decreases-items : goal.decreases-items
decreases-items l = length l.rest
