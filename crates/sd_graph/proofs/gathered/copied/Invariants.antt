use Rattle.std.proofs.Common.{◌≡◌, ◌++◌}
use Rattle.sd_graph.proofs.gathered.copied.Given as goal

abbrev pub invariant-loop-key : goal.invariant-loop-key
invariant-loop-key g l = l.copied.keys ++ l.key-iterator ≡ l.set.keys
