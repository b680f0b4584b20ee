use Rattle.std.proofs.Common.{◌∙◌, ap}
use Rattle.clap.specs.Walk.{texts}
use Rattle.command_spec.specs.Rows.{Row}
use Rattle.command_words.proofs.Line.{line_is, line_command}
use Rattle.command_words.proofs.named_command.Goals as goal

pub returns-clause-exact : goal.returns-clause-exact
returns-clause-exact c =
    c.in_ok-given.ensures.exact
    ∙ line_command c.args.name c.args.flags (texts c.deref.result.now) (texts c.args.words.now)
    (line_is _ _ _ c.deref.result.now c.args.words.now c.row.result.name c.args.name c.in_ok-line.ensures.items c.in_ok-push.ensures.items c.in_ok-extend_from_slice.ensures.items c.deref.ensures.value
    (ap (λ (r : Row). r.name) c.row.ensures)) c.requires
