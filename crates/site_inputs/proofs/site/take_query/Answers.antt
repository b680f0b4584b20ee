use Rattle.std.proofs.lemmas.Result.{err_from_is_err_and}
use Rattle.site_inputs.proofs.WrittenQueries.{unwritten_taken}
use Rattle.site_inputs.proofs.site.take_query.Goals as goal

pub returns-in_err-query : goal.returns-in_err-query
returns-in_err-query c =
    let p = err_from_is_err_and c.from_residual.result c.from_residual.ensures.1 in
    rw (p.1, p.2) (unwritten_taken c.args.path.now c.args.bytes.now c.in_err-query.field-0.0 c.in_err-query.ensures)

pub returns : goal.returns
returns c = c.take_checked.ensures c.args.bytes.now c.in_ok-query.ensures.0
