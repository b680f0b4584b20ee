use Rattle.std.proofs.Common.{◌∷◌, [], ◌++◌, ◌+◌, take, sym, ap, ◌∙◌}
use Rattle.trial_spec.specs.Events.{events_from}
use Rattle.command_trial.proofs.Lists.{more_events}
use Rattle.command_trial.proofs.requests.events.Goals as goal

pub loop-i-preserved : goal.loop-i-preserved
loop-i-preserved c =
    let i = c.loop-i.i in
    c.in_ok-add_connection.ensures ∙ ap (λ es. es ++ events_from (i + 1) (c.bytes.result.now ∷ [])) c.loop-i.invariant
    ∙ ap (λ t. events_from 1 (take i c.args.targets.now) ++ events_from (i + 1) (t ∷ [])) (c.bytes.ensures ∙ c.index-targets-i.is)
    ∙ sym (more_events c.args.targets.now i _ c.loop-i-test.true)
