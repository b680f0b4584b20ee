use Rattle.std.proofs.Common.{◌≡◌, take, map}
use Rattle.edge_queries.proofs.contents.edge_labels.Given as goal

abbrev pub invariant-loop-edge : goal.invariant-loop-edge
invariant-loop-edge l = l.labels.items ≡ map (λ e. e.label) (take l.edge-index l.edges)
