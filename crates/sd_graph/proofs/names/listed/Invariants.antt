use Rattle.std.proofs.Common.{◌≡◌, ◌++◌}
use Rattle.sd_graph.proofs.names.listed.Given as goal

-- what was pushed, and then what is left
abbrev pub invariant-loop-name : goal.invariant-loop-name
invariant-loop-name l = l.list.items ++ l.name-iterator ≡ l.fn.names.keys
