use Rattle.std.proofs.Common.{◌≡◌, length, map}
use Rattle.grammar.specs.Reading.{repeat, with_front}
use Rattle.order_spec.specs.Read.{place_of}
use Rattle.struql_orders.specs.Terminals.{begins_place}
use Rattle.struql_orders.specs.Reading.{read_place}
use Rattle.struql_orders.proofs.places.places_at.Given as goal

abbrev pub invariant-places : goal.invariant-places
invariant-places l = with_front (map place_of l.places.items) (repeat begins_place read_place l.rest) ≡ repeat begins_place read_place l.tokens

abbrev pub decreases-places : goal.decreases-places
decreases-places l = length l.rest
