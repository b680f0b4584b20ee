use Rattle.std.proofs.Common.{◌≡◌, map, take, false}
use Rattle.command_explain.proofs.block.none_bound.Given as goal

abbrev pub invariant-loop-variable : goal.invariant-loop-variable
invariant-loop-variable l = l.bound.items ≡ map (λ v. false) (take l._variable-index l.variables)
