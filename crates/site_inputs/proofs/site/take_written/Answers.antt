use Rattle.site_inputs.proofs.WrittenQueries.{unwritten}
use Rattle.site_inputs.proofs.site.take_written.Goals as goal

pub returns-in-Err : goal.returns-in-Err
returns-in-Err c = unwritten c.args.path.now c.args.bytes.now c.in-Err.refusal c.refused_query.result c.in-Err.ensures c.refused_query.ensures
