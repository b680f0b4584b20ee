use Rattle.std.proofs.Common.{sym}
use Rattle.http_reply.proofs.HostLemmas.{shorter_is_another}
use Rattle.http_reply.proofs.ask.is_host.Goals as goal

pub returns-then-value-name : goal.returns-then-value-name
returns-then-value-name c = sym (shorter_is_another c.args.value.now c.args.name.now c.if-value-name.true)
