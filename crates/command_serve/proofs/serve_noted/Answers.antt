use Rattle.std.proofs.Common.{◌∙◌}
use Rattle.site_inputs.specs.Values.{inputs_of}
use Rattle.command_serve.proofs.Courses.{steps_lent, serves_lent}
use Rattle.command_serve.proofs.serve_noted.Goals as goal

pub returns-clause-course : goal.returns-clause-course
returns-clause-course g c =
    steps_lent (inputs_of c.args.inputs) c.args.limits.now
    (g.W.Wire.told c.args.wire.now) (g.W.Wire.told c.lend.new.self) (g.W.Wire.told c.serve_site-served.new.wire) (g.W.Wire.told c.lend-2.new.self) c.serve_site-served.result
    (g.L.Trace.events c.args.log.now) (g.W.Wire.trace c.lend.new.self) (g.W.Wire.trace c.serve_site-served.new.wire) (g.L.Trace.events c.lend-2.new.log)
    c.lend.ensures.same (c.lend-2.ensures.same ∙ c.finish.ensures.stays) c.lend.ensures.given (c.lend-2.ensures.taken ∙ c.finish.ensures.traced) c.serve_site-served.ensures.steps

pub returns-clause-serves : goal.returns-clause-serves
returns-clause-serves g c =
    serves_lent (inputs_of c.args.inputs) c.args.limits.now
    (g.W.Wire.told c.args.wire.now) (g.W.Wire.told c.lend.new.self) (g.W.Wire.told c.serve_site-served.new.wire) (g.W.Wire.told c.lend-2.new.self) c.serve_site-served.result
    c.lend.ensures.same (c.lend-2.ensures.same ∙ c.finish.ensures.stays) c.serve_site-served.ensures.serves
