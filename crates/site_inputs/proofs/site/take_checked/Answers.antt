use Rattle.command_spec.specs.Limits.{text_limit}
use Rattle.site_inputs.proofs.WrittenQueries.{refused_taken}
use Rattle.site_inputs.proofs.site.take_checked.Goals as goal

pub returns-in-Err : goal.returns-in-Err
returns-in-Err c = λ bytes spelled. refused_taken c.args.path.now bytes c.in-Err.refusal c.refused_query.result (c.in-Err.ensures text_limit bytes spelled) c.refused_query.ensures
