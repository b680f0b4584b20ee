use Rattle.std.proofs.Common.{◌≡◌, map, take}
use Rattle.std.specs.Prelude.{flat_map}
use Rattle.graph_spec.specs.declared.Edge.{Edge}
use Rattle.order_spec.specs.Order.{reached}
use Rattle.graph_order.specs.Keys.{least_key}
use Rattle.graph_order.proofs.keys.Known.least.Given as goal

abbrev pub invariant-loop-edge : goal.invariant-loop-edge
invariant-loop-edge l =
    l.least ≡ least_key l.self.by_fold (flat_map (reached l.self.graph.now l.self.word.now) (map (λ (e : Edge). e.to) (take l.edge-index l.edges)))
