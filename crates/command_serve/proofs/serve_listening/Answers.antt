use Rattle.site_inputs.specs.Values.{inputs_of}
use Rattle.command_serve.proofs.Told.{wire_failed}
use Rattle.command_serve.proofs.Courses.{serves_then}
use Rattle.command_serve.proofs.serve_listening.Goals as goal

pub returns-clause-wire_cause : goal.returns-clause-wire_cause
returns-clause-wire_cause g c = λ e. c.serve_noted-served.ensures.failed (wire_failed c.serve_noted-served.result.end c.args.watches c.serve_noted-served.result.tally _ _ _ _ c.put_counts.ensures.ends e)

pub returns-clause-course : goal.returns-clause-course
returns-clause-course g c =
    serves_then (inputs_of c.args.inputs) (g.O.Sink.stream c.args.out.now) c.args.watches c.args.options.now c.put_counts.result
    (g.L.Trace.events c.args.log.now) (g.L.Trace.events c.serve_noted-served.new.log) (g.L.Trace.events c.put_counts.new.log)
    (g.W.Wire.told c.args.wire.now) (g.W.Wire.told c.serve_noted-served.new.wire) c.serve_noted-served.result c.serve_noted-served.ensures.course c.put_counts.ensures.course
