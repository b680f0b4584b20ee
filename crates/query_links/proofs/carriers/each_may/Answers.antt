use Rattle.std.specs.Prelude.{option_copied}
use Rattle.query_blocks.specs.Blocks.{scope_of}
use Rattle.constraint_spec.specs.Placed.{links_of}
use Rattle.constraint_recheck.specs.Recheck.{may_carry}
use Rattle.query_links.proofs.Carried.{each_carried}
use Rattle.query_links.proofs.carriers.each_may.Goals as goal

pub returns : goal.returns
returns g c =
    each_carried (may_carry (g.J.Judge.tests c.args.judge.now) c.args.query.now.version c.args.function.now c.args.label.now) (option_copied c.args.target) c.in_ok-found.found.items c.deref.result.now (links_of (scope_of c.args.query.now)) c.all_end.result c.deref.ensures.value
    c.in_ok-found.ensures c.all_end.ensures
