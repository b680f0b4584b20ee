use Rattle.command_serve.proofs.Told.{watching_of}
use Rattle.command_serve.proofs.watch_noted.Goals as goal

pub returns-clause-watches : goal.returns-clause-watches
returns-clause-watches g c =
    rw (c.lend-2.ensures.same)
    (watching_of c.args.watch.now (g.W.Wire.told c.args.wire.now) (g.W.Wire.told c.watch-result.new.self) c.watch-result.result
    (rw c.lend.ensures.same at c.watch-result.ensures.watches) (rw c.lend.ensures.same at c.watch-result.ensures.short) (rw c.lend.ensures.same at c.watch-result.ensures.stays))
