use Rattle.std.proofs.Common.{◌≡◌, [], ◌∷◌, take}
use Rattle.std.specs.Prelude.{flat_map}
use Rattle.graph_spec.specs.DataGraph.{Name}
use Rattle.graph_spec.specs.Statement.{a_node}
use Rattle.graph_order.specs.Adding.{building_of}
use Rattle.graph_order.proofs.adding.add_nodes.Given as goal

abbrev pub invariant-loop-name : goal.invariant-loop-name
invariant-loop-name l = l.builder ≡ building_of l.initial.builder (flat_map (λ (x : Name). a_node x ∷ []) (take l.name-index l.names))
