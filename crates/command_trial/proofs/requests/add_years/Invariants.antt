use Rattle.std.proofs.Common.{◌≡◌, ◌++◌}
use Rattle.trial_spec.specs.Requests.{years}
use Rattle.command_trial.proofs.requests.add_years.Given as goal

abbrev pub invariant-loop-past : goal.invariant-loop-past
invariant-loop-past l = l.targets.items ≡ l.initial.targets.items ++ years l.past
