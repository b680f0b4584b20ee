use Rattle.sd_ddl.proofs.Plainly.{first_reached, next_reached, shrinks}
use Rattle.sd_ddl.proofs.plain.add_all.Goals as goal

pub statements-init : goal.statements-init
statements-init c = first_reached c.args.start.at c.args.start.bytes.now c.args.graph.now

pub statements-smaller : goal.statements-smaller
statements-smaller c =
    shrinks c.statements.rest.at c.statements.rest.bytes.now c.statements.graph c.add_next.new.graph c.in-Some.left
    c.in-Some.ensures

pub statements-preserved : goal.statements-preserved
statements-preserved c =
    next_reached c.args.start.at c.args.start.bytes.now c.args.graph.now c.statements.rest.at
    c.statements.rest.bytes.now c.statements.graph c.add_next.new.graph c.in-Some.left
    c.statements.invariant c.in-Some.ensures
