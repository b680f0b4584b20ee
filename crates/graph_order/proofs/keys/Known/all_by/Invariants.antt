use Rattle.std.proofs.Common.{◌≡◌, ◌∷◌, map, take}
use Rattle.graph_spec.specs.DataGraph.{Name, node}
use Rattle.graph_order.specs.Keys.{key_by}
use Rattle.graph_order.proofs.keys.Known.all_by.Given as goal

abbrev pub invariant-loop-name : goal.invariant-loop-name
invariant-loop-name l =
    l.keys.items ≡ map (λ (n : Name). key_by l.self.by_fold l.self.graph.now (l.label ∷ l.self.word.now) (node n)) (take l.name-index l.names)
