use Rattle.std.proofs.Common.{◌≡◌, ◌≤◌, All, length, sym, subst, ◌∙◌}
use Rattle.command_trial.specs.Askable.{IsAskable}
use Rattle.trial_spec.specs.Requests.{targets}
use Rattle.command_trial.proofs.Lists.{targets_askable, targets_few}
use Rattle.command_trial.proofs.running.numbers_of.Goals as goal

pub ask_for-requires : goal.ask_for-requires
ask_for-requires c =
    let are : c.deref.result.now ≡ targets c.args.entries = c.deref.ensures.value ∙ c.in_ok-targets.ensures in
    record {
      askable = subst (All IsAskable) (sym are) (targets_askable c.args.entries c.requires);
      few = subst (λ ts. length ts ≤ 40062) (sym are) (targets_few c.args.entries c.requires);
    }
