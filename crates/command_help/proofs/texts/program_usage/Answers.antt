use Rattle.std.proofs.Common.{◌≡◌, subst, IfOk}
use Rattle.command_help.proofs.Whole.{usage_is}
use Rattle.command_help.proofs.texts.program_usage.Goals as goal

pub returns : goal.returns
returns c =
    subst (λ x. IfOk c.of.result (λ text. text ≡ x))
    (usage_is _ c.loop-name.name-index _ _ c.in_ok-extend_from_slice-2.ensures.items c.loop-name.invariant c.loop-name-test.false c.all-name-items.ensures) c.of.ensures
