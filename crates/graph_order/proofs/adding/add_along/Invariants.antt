use Rattle.std.proofs.Common.{◌≡◌, map, take}
use Rattle.std.specs.Prelude.{flat_map}
use Rattle.graph_order.specs.Adding.{building_of, stated_edge}
use Rattle.graph_order.specs.Numbers.{edges_of_member}
use Rattle.order_spec.specs.Read.{place_of}
use Rattle.graph_order.specs.declared.numbers.Numbered.{Numbered}
use Rattle.graph_order.proofs.adding.add_along.Given as goal

abbrev pub invariant-loop-member : goal.invariant-loop-member
invariant-loop-member l = l.builder ≡ building_of l.initial.builder
    (flat_map (λ (m : Numbered). map stated_edge (edges_of_member (map place_of l.places) l.names m)) (take l.member-index l.members))
