use Rattle.tmpl.specs.Body.{done}
use Rattle.tmpl.proofs.Bodies.{choice_body}
use Rattle.template_reader.proofs.body.choice_of.Goals as goal

pub returns : goal.returns
returns c = choice_body (record { negated = c.args.negated; values = c.args.tested.0; test = c.args.tested.1; taken = c.args.taken; other = c.args.other }) done
