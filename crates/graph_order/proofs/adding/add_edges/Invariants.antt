use Rattle.std.proofs.Common.{◌≡◌, [], ◌∷◌, take}
use Rattle.std.specs.Prelude.{flat_map}
use Rattle.graph_spec.specs.declared.Edge.{Edge}
use Rattle.graph_order.specs.Adding.{building_of, stated_edge}
use Rattle.graph_order.proofs.adding.add_edges.Given as goal

abbrev pub invariant-loop-edge : goal.invariant-loop-edge
invariant-loop-edge l = l.builder ≡ building_of l.initial.builder (flat_map (λ (x : Edge). stated_edge x ∷ []) (take l.edge-index l.edges))
