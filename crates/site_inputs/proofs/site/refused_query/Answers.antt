use Rattle.site_inputs.proofs.WrittenQueries.{told_refused}
use Rattle.site_inputs.proofs.site.refused_query.Goals as goal

pub returns-in-Ok : goal.returns-in-Ok
returns-in-Ok c = told_refused c.args.path.now c.args.refusal.now c.in-Ok.told c.refused.result c.in-Ok.ensures c.refused.ensures
