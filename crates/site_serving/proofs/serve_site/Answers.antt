use Rattle.site_inputs.specs.Values.{inputs_of}
use Rattle.serve_run.proofs.ServingLemmas.{serves_nothing, no_steps_happen}
use Rattle.site_pages.specs.Rules.{the_rules}
use Rattle.site_pages.specs.Texts.{current_site, current_templates, data_texts}
use Rattle.site_serving.specs.Served.{first_data, origin_of, room_of}
use Rattle.site_serving.proofs.serve_site.Goals as goal

pub returns-in-Err-clause-serves : goal.returns-in-Err-clause-serves
returns-in-Err-clause-serves g c =
    rw c.in-Err.ensures.err (
      the_rules,
      serves_nothing (origin_of (inputs_of c.args.inputs) c.args.limits.now) current_site current_templates (data_texts the_rules) (first_data (inputs_of c.args.inputs)) c.args.limits.now.requests c.args.limits.now.turns (room_of c.args.limits.now)
          (g.W.Wire.told c.args.wire.now),
    )

pub returns-in-Err-clause-steps : goal.returns-in-Err-clause-steps
returns-in-Err-clause-steps g c =
    rw c.in-Err.ensures.err (
      the_rules,
      no_steps_happen (origin_of (inputs_of c.args.inputs) c.args.limits.now) current_site current_templates (data_texts the_rules) (first_data (inputs_of c.args.inputs)) c.args.limits.now.requests c.args.limits.now.turns (room_of c.args.limits.now)
          (g.W.Wire.told c.args.wire.now) (g.W.Wire.trace c.args.wire.now),
    )

pub returns-in-Ok-clause-serves : goal.returns-in-Ok-clause-serves
returns-in-Ok-clause-serves g c = (the_rules, c.in-Ok.ensures.serves)

pub returns-in-Ok-clause-steps : goal.returns-in-Ok-clause-steps
returns-in-Ok-clause-steps g c = (the_rules, c.in-Ok.ensures.steps)
