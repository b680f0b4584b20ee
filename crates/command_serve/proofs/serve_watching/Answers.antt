use Rattle.std.proofs.Common.{inl, inr, refl}
use Rattle.site_inputs.specs.Values.{inputs_of}
use Rattle.command_serve.proofs.Courses.{listens_then, listens_fails}
use Rattle.command_serve.proofs.serve_watching.Goals as goal

pub returns-in-Ok-clause-ends : goal.returns-in-Ok-clause-ends
returns-in-Ok-clause-ends g c =
    inl (record {
      between = g.W.Wire.told c.listen_noted.new.wire;
      listening = c.listen_noted.ensures.listening;
      tells = c.serve_told.ensures.ends;
      listens = c.serve_told.ensures.listens;
      watches_stay = c.serve_told.ensures.watches;
    })

pub returns-in-Err-clause-ends : goal.returns-in-Err-clause-ends
returns-in-Err-clause-ends g c =
    inr (refl, c.listen_noted.ensures.listening, rw c.no_counts.ensures at c.put_anyway.ensures.ends)

pub returns-in-Ok-clause-course : goal.returns-in-Ok-clause-course
returns-in-Ok-clause-course g c =
    listens_then (inputs_of c.args.inputs) (g.O.Sink.stream c.args.out.now) c.args.watches c.args.options.now c.serve_told.result
    (g.L.Trace.events c.args.log.now) (g.L.Trace.events c.listen_noted.new.log) (g.L.Trace.events c.serve_told.new.log)
    (g.W.Wire.told c.args.wire.now) (g.W.Wire.told c.listen_noted.new.wire) (g.W.Wire.told c.serve_told.new.wire) c.in-Ok.ensures.course c.listen_noted.ensures.listening c.serve_told.ensures.course

pub returns-in-Err-clause-course : goal.returns-in-Err-clause-course
returns-in-Err-clause-course g c =
    listens_fails (inputs_of c.args.inputs) (g.O.Sink.stream c.args.out.now) c.args.watches c.args.options.now (g.W.Wire.told c.args.wire.now) (g.W.Wire.told c.listen_noted.new.wire)
    (g.L.Trace.events c.args.log.now) (g.L.Trace.events c.listen_noted.new.log) (g.L.Trace.events c.put_anyway.new.log) c.no_counts.result.now c.no_counts.ensures c.in-Err.ensures.course c.put_anyway.ensures.course
