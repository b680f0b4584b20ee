use Rattle.condition_tests.proofs.Equal.{equal_same, equal_twins}
use Rattle.condition_tests.proofs.compare.is_equal.Goals as goal

pub returns-then-same : goal.returns-then-same
returns-then-same c = equal_same c.args.version c.args.u.now c.args.v.now _ c.eq-same.ensures c.if-same.true

pub returns-else-same : goal.returns-else-same
returns-else-same c = equal_twins c.args.version c.args.u.now c.args.v.now _ _ c.eq-same.ensures c.if-same.false c.in_ok-twins.ensures
