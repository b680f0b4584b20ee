use Rattle.std.proofs.Common.{◌≡◌, map, take}
use Rattle.std.specs.Prelude.{flat_map}
use Rattle.std.specs.Option.{option_copied}
use Rattle.graph_order.specs.Adding.{building_of, stated_edge}
use Rattle.order_spec.specs.Read.{place_of}
use Rattle.order_spec.specs.declared.Place.{Place as CodePlace}
use Rattle.order_spec.specs.Order.{edges_at}
use Rattle.graph_order.proofs.adding.add_places.Given as goal

abbrev pub invariant-loop-place : goal.invariant-loop-place
invariant-loop-place l = l.builder ≡ building_of l.initial.builder
    (flat_map (λ (p : CodePlace). map stated_edge (edges_at (place_of p) l.number (option_copied l.before) l.node (option_copied l.after)))
    (take l.place-index l.places))
