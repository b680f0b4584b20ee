use Rattle.click_time.proofs.Entries.{puts}
use Rattle.click_time.proofs.known.Known.put.Goals as goal

pub returns-in-Ok : goal.returns-in-Ok
returns-in-Ok g c =
    rw c.in-Ok.ensures.entries (puts g.K.PartialEq.eq g.met.K.ExactKey.exact c.args.self.now.told.entries c.args.key c.args.told)
