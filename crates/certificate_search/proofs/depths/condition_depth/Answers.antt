use Rattle.query_spec.specs.Mentions.{names}
use Rattle.struql_ast.specs.Reading.{condition_of}
use Rattle.certificate_search.proofs.Deeper.{depth_with, depth_without}
use Rattle.certificate_search.proofs.depths.condition_depth.Goals as goal
use Rattle.certificate_search.proofs.depths.condition_depth.Goals.{then-mentions, else-mentions}

pub loop-place-preserved : goal.loop-place-preserved
loop-place-preserved c =
    let at = c.index-variables-place in
    let xs = names (condition_of c.args.condition.now) in
    elim c.if-mentions.branch [
      | then-mentions w ↦ (let e = depth_with c.args.variables.now c.loop-place.place at.result xs c.loop-place-test.true at.is cc in cc)
      | else-mentions w ↦ (let e = depth_without c.args.variables.now c.loop-place.place at.result xs c.loop-place-test.true at.is cc in cc)
    ]
