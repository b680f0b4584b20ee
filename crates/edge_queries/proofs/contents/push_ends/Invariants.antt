use Rattle.std.proofs.Common.{◌≡◌, take, map, ◌++◌}
use Rattle.edge_queries.proofs.contents.push_ends.Given as goal

abbrev pub invariant-loop-edge : goal.invariant-loop-edge
invariant-loop-edge l = l.values.items ≡ l.initial.values.items ++ map (λ e. e.to) (take l.edge-index l.edges)
