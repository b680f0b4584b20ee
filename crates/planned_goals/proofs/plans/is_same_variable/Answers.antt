use Rattle.query_parts.proofs.Same.{name_decides}
use Rattle.planned_goals.proofs.Same.{same_variable}
use Rattle.planned_goals.proofs.plans.is_same_variable.Goals as goal

pub returns-then-eq : goal.returns-then-eq
returns-then-eq c tied =
    let says = c.eq.ensures in
    same_variable c.args.one.now c.args.other.now ((name_decides c.args.one.now.name c.args.other.now.name).0 cc) (c.is_same_flag.ensures tied)
