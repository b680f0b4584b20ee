use Rattle.tmpl.specs.Body.{done}
use Rattle.tmpl.proofs.Bodies.{repeat_body}
use Rattle.template_reader.proofs.body.repeat_of.Goals as goal

pub returns : goal.returns
returns c = repeat_body (record { number = c.args.number; values = c.args.values; order = c.args.order; body = c.args.body }) done
