use Rattle.http_spec.proofs.LaterLemmas.{closed_later, short_later}
use Rattle.http_spec.proofs.laws.closed_stays_closed.Goals as goal

pub returns-clause-closed : goal.returns-clause-closed
returns-clause-closed g c = λ limit stream more ended replies a. closed_later g.P.SomePages.page limit stream more ended replies a

pub returns-clause-short : goal.returns-clause-short
returns-clause-short g c = λ limit stream more ended replies a. short_later g.P.SomePages.page limit stream more ended replies a
