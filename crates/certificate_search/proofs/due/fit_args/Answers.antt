use Rattle.std.proofs.Common.{get_or, ap, sym, ◌∙◌, arith}
use Rattle.query_spec.specs.Mentions.{operand_names}
use Rattle.struql_ast.specs.Reading.{operand_of}
use Rattle.constraint_recheck.specs.Search.{depth, due_arg}
use Rattle.certificate_search.proofs.RenamedSteps.{mapped_at, zip_false, zip_true}
use Rattle.certificate_search.proofs.due.fit_args.Goals as goal

pub fits_arg-requires : goal.fits_arg-requires
fits_arg-requires c =
    ap (λ ds. get_or ds c.loop-place.place 0) c.requires
    ∙ mapped_at (λ o. depth c.args.variables.now (operand_names o)) operand_of c.args.operands.now c.loop-place.place c.index-operands-place.result 0 c.loop-place-test.true c.index-operands-place.is

pub returns-then-not-fits_arg : goal.returns-then-not-fits_arg
returns-then-not-fits_arg c =
    let e = zip_false (due_arg c.args.variables.now c.args.names.now) operand_of operand_of c.args.operands.now c.args.others.now c.loop-place.place c.index-operands-place.result c.index-others-place.result
    c.loop-place-test.true (omega arith) c.index-operands-place.is c.index-others-place.is cc in
    sym e ∙ c.loop-place.invariant

pub loop-place-preserved : goal.loop-place-preserved
loop-place-preserved c =
    let e = zip_true (due_arg c.args.variables.now c.args.names.now) operand_of operand_of c.args.operands.now c.args.others.now c.loop-place.place c.index-operands-place.result c.index-others-place.result
    c.loop-place-test.true (omega arith) c.index-operands-place.is c.index-others-place.is cc in
    sym e ∙ c.loop-place.invariant
