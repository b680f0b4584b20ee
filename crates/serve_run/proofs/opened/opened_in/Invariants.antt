use Rattle.std.proofs.Common.{◌≡◌, ◌++◌, drop}
use Rattle.serving_spec.specs.Openings.{opened_from, opened_in}
use Rattle.serve_run.proofs.opened.opened_in.Given as goal

abbrev pub invariant-loop-event : goal.invariant-loop-event
invariant-loop-event l = l.opened.items ++ opened_from l.greatest (drop l.event-index l.events) ≡ opened_in l.events
