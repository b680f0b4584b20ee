use Rattle.query_blocks.specs.Blocks.{scope_of}
use Rattle.constraint_spec.specs.Placed.{links_of}
use Rattle.constraint_recheck.specs.Recheck.{may_carry}
use Rattle.query_links.proofs.Carried.{single_carried}
use Rattle.query_links.proofs.carriers.is_single.Goals as goal

pub returns : goal.returns
returns g c =
    single_carried (may_carry (g.J.Judge.tests c.args.judge.now) c.args.query.now.version c.args.function.now c.args.label.now) c.in_ok-found.found.items c.deref.result.now (links_of (scope_of c.args.query.now)) c.is_determined_alone.result c.deref.ensures.value
    c.in_ok-found.ensures c.is_determined_alone.ensures
