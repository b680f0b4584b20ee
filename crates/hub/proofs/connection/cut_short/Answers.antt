use Rattle.std.proofs.Common.{refl, [], ◌∙◌, ap, take}
use Rattle.std.proofs.lemmas.Result.{err_from_is_err_and}
use Rattle.http_spec.specs.declared.Standing.TheVariants.{Short}
use Rattle.http_spec.specs.Replies.{no_memory_bytes}
use Rattle.wire.specs.Accounts.{send_to}
use Rattle.hub.proofs.connection.cut_short.Goals as goal

pub returns-in_err-send-clause-sent : goal.returns-in_err-send-clause-sent
returns-in_err-send-clause-sent g c =
    let p = err_from_is_err_and c.from_residual.result c.from_residual.ensures.1 in
    let some = c.in_err-send.ensures.traced.0 in
    rw p.1 (
      Short,
      [],
      no_memory_bytes,
      some,
      (refl, refl),
      c.in_err-send.ensures.traced.2 ∙ ap (λ b. send_to ((g.W.Wire.told c.args.wire.now).account c.args.number) (take some b)) c.no_memory_reply.ensures,
      c.in_err-send.ensures.failed,
    )
