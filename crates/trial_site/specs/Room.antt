-- The room that the data of a trial have in a graph.
use Rattle.std.specs.Prelude.{◌≡◌, ◌≤◌, ◌+◌, ◌*◌, ℕ, length}
use Rattle.sd_graph.specs.declared.Limits.{Limits}
use Rattle.sd_graph.specs.Statement.{Building}

-- the limits of the program
abbrev pub program_limits : Limits
program_limits = record { nodes = 1048576; edges = 4194304 }

-- There is room for n statements more: each has two nodes at most, and one edge or member.
pub record HasRoom (statements : ℕ) (b : Building) : Type 0 where
  pub limits : b.limits ≡ program_limits
  pub nodes : length b.graph.nodes + 2 * statements ≤ 1048576
  pub edges : (length b.graph.edges + length b.graph.members) + statements ≤ 4194304
