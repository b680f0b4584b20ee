use Rattle.struql_ast.specs.Reading.{target_of}
use Rattle.site_lookups.proofs.SomeRows.{tells_more}
use Rattle.site_lookups.proofs.wanted.variables_in.Goals as goal

pub loop-variable-preserved : goal.loop-variable-preserved
loop-variable-preserved c =
    rw c.in_ok-push.ensures.items
    (tells_more c.args.variables.now (target_of c.args.target.now) c.loop-variable.flags.items c.loop-variable.variable-index c.variable-item.result c.is_in_target.result c.loop-variable-test.true c.variable-item.is c.loop-variable.invariant c.is_in_target.ensures)
