use Rattle.site_files.proofs.Among.{among, not_yet, never}
use Rattle.site_files.proofs.index.is_among.Goals as goal

pub returns-then-eq : goal.returns-then-eq
returns-then-eq c = among c.args.names.now c.loop-name.name-index c.name-item.result c.args.page.now c.eq.result c.loop-name-test.true c.name-item.is c.eq.ensures c.if-eq.true

pub loop-name-preserved : goal.loop-name-preserved
loop-name-preserved c = not_yet c.args.names.now c.loop-name.name-index c.name-item.result c.args.page.now c.eq.result c.loop-name-test.true c.name-item.is c.eq.ensures c.if-eq.false c.loop-name.invariant

pub returns : goal.returns
returns c = never c.args.names.now c.loop-name.name-index c.args.page.now c.loop-name-test.false c.loop-name.invariant
