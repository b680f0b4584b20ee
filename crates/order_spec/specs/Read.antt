-- How an ORDER of the program reads.
use Rattle.std.specs.Prelude.{map}
use Rattle.order_spec.specs.Order.{Place, position, next, previous, page, Order}
use Rattle.order_spec.specs.declared.Order.{Order as CodeOrder}
use Rattle.order_spec.specs.declared.Place.{Place as CodePlace}
use Rattle.order_spec.specs.declared.Place.TheVariants.{Position, Next, Previous, Page}

-- an edge that each member is given
abbrev pub place_of : CodePlace → Place
place_of (Position l) = position l
place_of (Next l) = next l
place_of (Previous l) = previous l
place_of (Page l k) = page l k

-- the ORDER
abbrev pub order_of : CodeOrder → Order
order_of o = record {
  collection = o.collection;
  word = o.word.items;
  fold = o.fold;
  descend = o.descend;
  places = map place_of o.places.items;
}
