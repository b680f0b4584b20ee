use Rattle.std.proofs.Common.{◌≡◌, ◌+◌, drop}
use Rattle.std.specs.List.{prefix_len}
use Rattle.sd_ddl.specs.Groups.{start_is}
use Rattle.sd_ddl.proofs.groups.edges_at.Given as goal

-- what was passed, and what comes yet
abbrev pub invariant-loop-i : goal.invariant-loop-i
invariant-loop-i l = prefix_len (start_is l.node) l.edges ≡ l.i + prefix_len (start_is l.node) (drop l.i l.edges)
