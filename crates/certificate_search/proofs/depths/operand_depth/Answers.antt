use Rattle.query_spec.specs.Mentions.{operand_names}
use Rattle.struql_ast.specs.Reading.{operand_of}
use Rattle.certificate_search.proofs.Deeper.{depth_with, depth_without}
use Rattle.certificate_search.proofs.depths.operand_depth.Goals as goal
use Rattle.certificate_search.proofs.depths.operand_depth.Goals.{then-is_named, else-is_named}

pub loop-place-preserved : goal.loop-place-preserved
loop-place-preserved c =
    let at = c.index-variables-place in
    let xs = operand_names (operand_of c.args.operand.now) in
    elim c.if-is_named.branch [
      | then-is_named w ↦ (let e = depth_with c.args.variables.now c.loop-place.place at.result xs c.loop-place-test.true at.is cc in cc)
      | else-is_named w ↦ (let e = depth_without c.args.variables.now c.loop-place.place at.result xs c.loop-place-test.true at.is cc in cc)
    ]
