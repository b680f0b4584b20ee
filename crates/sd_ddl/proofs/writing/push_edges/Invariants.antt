use Rattle.std.proofs.Common.{◌≡◌, ◌++◌, take, map}
use Rattle.std.specs.List.{flat_map}
use Rattle.sd_ddl.specs.Written.{step_of, step_line}
use Rattle.sd_ddl.proofs.writing.push_edges.Given as goal

abbrev pub invariant-loop-edge : goal.invariant-loop-edge
invariant-loop-edge l = l.out.items ≡ l.fn.out.items ++ flat_map step_line (map step_of (take l.edge-index l.edges))
