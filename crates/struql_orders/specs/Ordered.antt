-- A query with its ORDERs, as it is written.
use Rattle.std.specs.Prelude.{List, map}
use Rattle.order_spec.specs.Order.{Order}
use Rattle.order_spec.specs.Read.{order_of}
use Rattle.query_spec.specs.Query as plain
use Rattle.struql_ast.specs.Reading.{query_of}
use Rattle.struql_ast.specs.Written as written
use Rattle.struql_ast.specs.Written.{query_written}
use Rattle.struql_orders.specs.declared.OrderedQuery as declared

-- the ORDERs, and the rest of the query with the places of its parts
pub record OrderedQuery : Type 0 where
  pub orders : List Order
  pub query : written.Query

-- the same without places
pub record Ordered : Type 0 where
  pub orders : List Order
  pub query : plain.Query

-- what the program's is
abbrev pub ordered_written : declared.OrderedQuery → OrderedQuery
ordered_written q = record {
  orders = map order_of q.orders.items;
  query = query_written q.query;
}

-- and without places
abbrev pub ordered_of : declared.OrderedQuery → Ordered
ordered_of q = record { orders = map order_of q.orders.items; query = query_of q.query }
