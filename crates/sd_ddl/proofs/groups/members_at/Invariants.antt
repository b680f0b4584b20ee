use Rattle.std.proofs.Common.{◌≡◌, ◌+◌, drop}
use Rattle.std.specs.List.{prefix_len}
use Rattle.sd_ddl.specs.Groups.{node_is}
use Rattle.sd_ddl.proofs.groups.members_at.Given as goal

-- what was passed, and what comes yet
abbrev pub invariant-loop-i : goal.invariant-loop-i
invariant-loop-i l = prefix_len (node_is l.node) l.members ≡ l.i + prefix_len (node_is l.node) (drop l.i l.members)
