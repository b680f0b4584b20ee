use Rattle.std.proofs.Common.{sym, ap, ◌∙◌}
use Rattle.command_trial.specs.Replies.{reply_to}
use Rattle.command_trial.proofs.Replies.{shows_page, shows_missing, shows_no_short, shows_fault}
use Rattle.command_trial.proofs.counts.reply_of.Goals as goal

pub returns-then-starts_with-clause-shown : goal.returns-then-starts_with-clause-shown
returns-then-starts_with-clause-shown c = λ outcome is.
    shows_page c.args.bytes.now outcome c.body_length.result is (sym c.starts_with.ensures.value ∙ c.if-starts_with.true) (λ text e. c.body_length.ensures text (is ∙ ap reply_to e))

pub returns-then-starts_with-2-clause-shown : goal.returns-then-starts_with-2-clause-shown
returns-then-starts_with-2-clause-shown c = λ outcome is.
    shows_missing c.args.bytes.now outcome is (sym c.starts_with-else-starts_with.ensures.value ∙ c.if-starts_with-2.true)

pub returns-then-starts_with-3-clause-shown : goal.returns-then-starts_with-3-clause-shown
returns-then-starts_with-3-clause-shown c = λ outcome is.
    shows_no_short c.args.bytes.now outcome is (sym c.starts_with-else-starts_with-2.ensures.value ∙ c.if-starts_with-3.true)

pub returns-else-starts_with-3-clause-shown : goal.returns-else-starts_with-3-clause-shown
returns-else-starts_with-3-clause-shown c = λ outcome is.
    shows_fault c.args.bytes.now outcome is (sym c.starts_with.ensures.value ∙ c.if-starts_with.false) (sym c.starts_with-else-starts_with.ensures.value ∙ c.if-starts_with-2.false)
