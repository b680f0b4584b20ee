use Rattle.std.proofs.Common.{◌≡◌, true, false, sym, ◌∙◌, arith}
use Rattle.command_trial.proofs.Replies.{front_stands, some_line, body_is}
use Rattle.command_trial.proofs.counts.body_length.Goals as goal

pub returns-in_default : goal.returns-in_default
returns-in_default c = λ text is.
    absurd (let wrong : true ≡ false = sym (front_stands text c.args.reply.now c.args.reply.now is (omega (arith, c.length_of-length.ensures.value, c.length_of-length.ensures.small))) ∙ c.in_default.ensures.cases in cc)

pub returns-in-Some-line_end : goal.returns-in-Some-line_end
returns-in-Some-line_end c = λ text is.
    let body = body_is text c.args.reply.now c.in-Some.rest.now is (omega (arith, c.length_of-length.ensures.value, c.length_of-length.ensures.small)) c.in-Some-line_end.digits c.in-Some.ensures.cases.1 c.in-Some-line_end.ensures.at in
    omega (arith, c.saturating_sub.ensures, body, c.length_of-length.ensures.value)

pub returns-in-None : goal.returns-in-None
returns-in-None c = λ text is.
    absurd (some_line text c.args.reply.now c.in-Some.rest.now is (omega (arith, c.length_of-length.ensures.value, c.length_of-length.ensures.small)) c.in-Some.ensures.cases.1 (sym c.in-None.ensures.at))
