use Rattle.std.proofs.Common.{arith}
use Rattle.struql_ast.specs.Reading.{operand_of}
use Rattle.query_parts.specs.Same.{same_operand}
use Rattle.query_parts.proofs.Pairs.{pairs_false, pairs_true}
use Rattle.query_parts.proofs.equality.same_args.Goals as goal

pub returns-then-not-same_operands : goal.returns-then-not-same_operands
returns-then-not-same_operands c =
    let e = pairs_false same_operand operand_of operand_of c.args.args.now c.args.others.now c.loop-place.place c.index-args-place.result c.index-others-place.result
    c.loop-place-test.true (omega arith) c.index-args-place.is c.index-others-place.is cc in
    cc

pub loop-place-preserved : goal.loop-place-preserved
loop-place-preserved c =
    let e = pairs_true same_operand operand_of operand_of c.args.args.now c.args.others.now c.loop-place.place c.index-args-place.result c.index-others-place.result
    c.loop-place-test.true (omega arith) c.index-args-place.is c.index-others-place.is cc in
    cc
