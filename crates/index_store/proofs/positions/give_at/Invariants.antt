use Rattle.std.proofs.Common.{◌≡◌, take, map}
use Rattle.index_store.specs.Indexed.{edges_at}
use Rattle.index_store.proofs.positions.give_at.Given as goal

abbrev pub invariant-loop-position : goal.invariant-loop-position
invariant-loop-position g l = l.given.items ≡ map g.Q.Query.gives (edges_at l.edges (take l.position-index l.positions))
