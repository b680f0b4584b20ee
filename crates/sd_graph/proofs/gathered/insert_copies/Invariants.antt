use Rattle.std.proofs.Common.{◌≡◌, take}
use Rattle.sd_graph.specs.Gathered.{insert_all}
use Rattle.sd_graph.proofs.gathered.insert_copies.Given as goal

abbrev pub invariant-loop-key : goal.invariant-loop-key
invariant-loop-key g l = l.ordered.keys ≡ insert_all g.K.Ord.cmp l.fn.ordered.keys (take l.key-index l.fresh)
