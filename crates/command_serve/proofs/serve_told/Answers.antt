use Rattle.std.proofs.Common.{List, ℕ, [], arith, subst, ◌∙◌}
use Rattle.edge_io.specs.Counts.{Rose}
use Rattle.edge_io.specs.Sink.{Gains}
use Rattle.site_inputs.specs.Values.{inputs_of}
use Rattle.command_serve.proofs.Told.{told_listening}
use Rattle.command_serve.proofs.Courses.{tells_then, tells_fails}
use Rattle.command_serve.proofs.serve_told.Goals as goal

pub returns-in-Ok-clause-ends : goal.returns-in-Ok-clause-ends
returns-in-Ok-clause-ends g c =
    told_listening (inputs_of c.args.inputs) c.args.watches c.args.options.now _ _ (g.O.Sink.text c.args.out.now) (g.O.Sink.text c.put_noted.new.out) (g.O.Sink.text c.serve_listening.new.out)
    (Rose (g.O.Sink.failed c.put_noted.new.out) (g.O.Sink.failed c.serve_listening.new.out)) (Rose (g.O.Sink.failed c.args.out.now) (g.O.Sink.failed c.serve_listening.new.out))
    (λ rose. omega (arith, rose, c.in-Ok.ensures.cause.later))
    (subst (λ (text : List ℕ). Gains (g.O.Sink.text c.args.out.now) (g.O.Sink.text c.put_noted.new.out) text) (c.bytes.ensures ∙ c.requires.line) c.in-Ok.ensures.whole)
    c.serve_listening.result c.serve_listening.ensures.ends

pub returns-in-Ok-clause-course : goal.returns-in-Ok-clause-course
returns-in-Ok-clause-course g c =
    tells_then (inputs_of c.args.inputs) (g.O.Sink.stream c.args.out.now) c.args.watches c.args.options.now c.serve_listening.result
    (g.L.Trace.events c.args.log.now) (g.L.Trace.events c.put_noted.new.log) (g.L.Trace.events c.serve_listening.new.log)
    (g.W.Wire.told c.args.wire.now) (g.W.Wire.told c.serve_listening.new.wire) c.bytes.result.now (c.bytes.ensures ∙ c.requires.line) c.in-Ok.ensures.course
    (rw c.in-Ok.ensures.stays at c.serve_listening.ensures.course)

pub returns-in-Err-clause-course : goal.returns-in-Err-clause-course
returns-in-Err-clause-course g c =
    tells_fails (inputs_of c.args.inputs) (g.O.Sink.stream c.args.out.now) c.args.watches c.args.options.now (g.W.Wire.told c.args.wire.now) (g.W.Wire.told c.args.wire.now)
    (g.L.Trace.events c.args.log.now) (g.L.Trace.events c.put_noted.new.log) [] c.bytes.result.now c.in-Err.ensures.course.0 (c.bytes.ensures ∙ c.requires.line) c.in-Err.ensures.course.1
