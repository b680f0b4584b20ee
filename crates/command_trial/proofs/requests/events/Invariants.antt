use Rattle.std.proofs.Common.{◌≡◌, take}
use Rattle.trial_spec.specs.Events.{events_from}
use Rattle.command_trial.proofs.requests.events.Given as goal

abbrev pub invariant-loop-i : goal.invariant-loop-i
invariant-loop-i l = l.events.items ≡ events_from 1 (take l.i l.targets)
