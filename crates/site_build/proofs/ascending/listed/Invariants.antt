use Rattle.std.proofs.Common.{◌≡◌, ◌++◌}
use Rattle.site_build.proofs.ascending.listed.Given as goal

-- what was pushed, and then what is left
abbrev pub invariant-loop-key : goal.invariant-loop-key
invariant-loop-key g l = l.items.items ++ l.key-iterator ≡ l.fn.set.keys
