use Rattle.std.proofs.Common.{◌≡◌, ◌++◌}
use Rattle.trial_spec.specs.Requests.{papers}
use Rattle.command_trial.proofs.requests.add_papers.Given as goal

abbrev pub invariant-loop-made : goal.invariant-loop-made
invariant-loop-made l = l.targets.items ≡ l.initial.targets.items ++ papers l.made
