use Rattle.std.proofs.Common.{◌≡◌, length, map}
use Rattle.grammar.specs.Reading.{repeat, with_front}
use Rattle.order_spec.specs.Read.{order_of}
use Rattle.struql_text.specs.declared.keyword.Keyword.TheVariants as words
use Rattle.struql_text.specs.Terminals.{is_keyword}
use Rattle.struql_orders.specs.Reading.{read_order}
use Rattle.struql_orders.proofs.reading.some_orders_at.Given as goal

abbrev pub invariant-orders : goal.invariant-orders
invariant-orders l = with_front (map order_of l.orders.items) (repeat (is_keyword words.Order) read_order l.rest) ≡ repeat (is_keyword words.Order) read_order l.tokens

abbrev pub decreases-orders : goal.decreases-orders
decreases-orders l = length l.rest
