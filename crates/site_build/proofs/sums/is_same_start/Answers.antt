use Rattle.site_lookups.proofs.Some.{some_from}
use Rattle.site_build.specs.Sums.{StartAlike}
use Rattle.site_build.proofs.SumLaws.{alike_by, last_in}
use Rattle.site_build.proofs.sums.is_same_start.Goals as goal

pub returns-then-eq : goal.returns-then-eq
returns-then-eq c = λ r.
    some_from (StartAlike c.args.link.now) c.args.before.now c.last-item.result (last_in c.args.before.now c.last-item.result c.in-len1-up.len_at_least c.last-item.is)
    (alike_by c.last-item.result c.args.link.now c.eq.result c.eq-then-eq.result c.eq.ensures c.eq-then-eq.ensures c.if-eq.true r)
