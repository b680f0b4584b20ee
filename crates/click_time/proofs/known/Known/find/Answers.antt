use Rattle.std.proofs.Common.{sym}
use Rattle.click_time.proofs.Entries.{found, missed}
use Rattle.click_time.proofs.known.Known.find.Goals as goal

pub returns-in-Some : goal.returns-in-Some
returns-in-Some g c =
    found g.K.PartialEq.eq g.met.K.ExactKey.exact c.args.self.now.told.entries c.args.key.now c.in-Some.told.now (sym c.in-Some.ensures.value)

pub returns-in-None : goal.returns-in-None
returns-in-None g c =
    missed g.K.PartialEq.eq g.met.K.ExactKey.exact g.met.K.Eq.laws.refl c.args.self.now.told.entries c.args.key.now (sym c.in-None.ensures.value)
