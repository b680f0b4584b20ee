use Rattle.std.proofs.Common.{subst, sym, Option, Some}
use Rattle.std.proofs.lemmas.Result.{MatchResult-at_err}
use Rattle.happenings.specs.Happening.{Happening, SendFailed}
use Rattle.logged_wire.specs.Logged.{Kept, Logs}
use Rattle.logged_wire.proofs.LoggedWireWire.send.Goals as goal

pub returns-in-Err-clause-noted : goal.returns-in-Err-clause-noted
returns-in-Err-clause-noted g c =
    let cut = MatchResult-at_err _ _ c.in-Err.field-0 c.in-Err.is c.send-result.ensures.traced in
    let h : Happening = SendFailed c.args.connection c.args.bytes.now cut.0 in
    (h, cut.1, subst (λ (log : Option Kept). Logs h log (Some c.send_failed.new.self)) (sym c.in-Some.is) (c.send_failed.ensures cut.0))
