use Rattle.std.proofs.lemmas.Result.{err_from_is_err_and}
use Rattle.struql_ast.specs.Written.{query_written}
use Rattle.site_inputs.proofs.WrittenQueries.{unwritten_taken}
use Rattle.command_lint.proofs.asked.take_asked.Goals as goal

pub take_checked-requires : goal.take_checked-requires
take_checked-requires c = c.in_ok-written.ensures.1

pub returns-in_err-written : goal.returns-in_err-written
returns-in_err-written c =
    let p = err_from_is_err_and c.from_residual.result c.from_residual.ensures.1 in
    rw (p.1, p.2) (unwritten_taken c.args.path.now c.args.bytes.now c.in_err-written.field-0.0 c.in_err-written.ensures)

pub returns-in_err-asked : goal.returns-in_err-asked
returns-in_err-asked c =
    let p = err_from_is_err_and c.from_residual-in_err-asked.result c.from_residual-in_err-asked.ensures.1 in
    rw (p.1, p.2) tt

pub returns-in_err-checked : goal.returns-in_err-checked
returns-in_err-checked c =
    let p = err_from_is_err_and c.from_residual-in_err-checked.result c.from_residual-in_err-checked.ensures.1 in
    rw (p.1, p.2) (c.in_err-checked.ensures c.args.bytes.now c.in_ok-written.ensures.0)

pub returns : goal.returns
returns c = (
  c.in_ok-checked.ensures c.args.bytes.now c.in_ok-written.ensures.0,
  (query_written c.in_ok-written.written, c.in_ok-written.ensures.0, c.in_ok-asked.ensures),
)
