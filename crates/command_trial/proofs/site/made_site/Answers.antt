use Rattle.std.proofs.Common.{refl}
use Rattle.command_spec.specs.Limits.{text_limit}
use Rattle.trial_spec.specs.Texts.{query_text}
use Rattle.command_trial.proofs.Queries.{accepted_spelled}
use Rattle.command_trial.proofs.site.made_site.Goals as goal

pub returns : goal.returns
returns c = record {
  graph = c.in_ok-made_graph.ensures;
  first = refl;
  query = accepted_spelled text_limit query_text c.in_ok-made_query.field-0 c.in_ok-made_query.ensures;
  templates = c.in_ok-made_templates.ensures;
}
