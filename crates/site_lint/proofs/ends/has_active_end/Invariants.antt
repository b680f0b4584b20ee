use Rattle.std.proofs.Common.{◌≡◌, false, take}
use Rattle.lint_spec.specs.Mistakes.{has_active_end}
use Rattle.site_lint.proofs.ends.has_active_end.Given as goal

abbrev pub invariant-loop-edge : goal.invariant-loop-edge
invariant-loop-edge l = has_active_end (take l.edge-index l.edges) ≡ false
