use Rattle.std.proofs.Common.{◌∙◌, [], ap, inl}
use Rattle.site_inputs.specs.Values.{inputs_of}
use Rattle.serve_run.specs.Texts.{tally_text}
use Rattle.command_serve.specs.Ends.{no_tally}
use Rattle.command_serve.proofs.Told.{over_of}
use Rattle.command_serve.proofs.Courses.{over_then, watch_fails, watch_short}
use Rattle.command_serve.proofs.serve_over.Goals as goal

pub returns-in-Ok-watch_if-clause-ends : goal.returns-in-Ok-watch_if-clause-ends
returns-in-Ok-watch_if-clause-ends g c = λ files now reads reads_now writes writes_now.
    over_of (inputs_of c.args.inputs) c.args.watch.now c.args.options.now _ _ _ files now reads reads_now writes writes_now _ _ _ _
    (rw c.in-Ok-watch_if.is at c.watch_if.ensures.watches) c.serve_watching.result (rw c.is_some.ensures at c.serve_watching.ensures.ends)

pub returns-in-Err-Failed-clause-ends : goal.returns-in-Err-Failed-clause-ends
returns-in-Err-Failed-clause-ends g c = λ files now reads reads_now writes writes_now.
    inl (inl (rw (c.in-Err-Failed.is, c.in-Err-Failed.field-0-is) at c.watch_if.ensures.watches), rw (c.no_counts.ensures, c.is_some-in-Err-Failed.ensures) at c.put_anyway.ensures.ends)

pub returns-in-Ok-watch_if-clause-course : goal.returns-in-Ok-watch_if-clause-course
returns-in-Ok-watch_if-clause-course g c =
    over_then (inputs_of c.args.inputs) (g.O.Sink.stream c.args.out.now) c.args.options.now
    (g.L.Trace.events c.args.log.now) (g.L.Trace.events c.watch_if.new.log) (g.L.Trace.events c.serve_watching.new.log) _ c.args.watch.now
    (g.W.Wire.told c.args.wire.now) (g.W.Wire.told c.watch_if.new.wire) (g.W.Wire.told c.serve_watching.new.wire) c.serve_watching.result c.in-Ok-watch_if.field-0 c.in-Ok-watch_if.ensures.course
    (rw c.in-Ok-watch_if.is at c.watch_if.ensures.watches) (rw c.is_some.ensures at c.serve_watching.ensures.course)

pub returns-in-Err-Failed-clause-course : goal.returns-in-Err-Failed-clause-course
returns-in-Err-Failed-clause-course g c =
    watch_fails (inputs_of c.args.inputs) (g.O.Sink.stream c.args.out.now) c.args.options.now
    (g.L.Trace.events c.args.log.now) (g.L.Trace.events c.watch_if.new.log) (g.L.Trace.events c.put_anyway.new.log) c.args.watch.now
    (g.W.Wire.told c.args.wire.now) (g.W.Wire.told c.watch_if.new.wire) c.in-Err-Failed.field-0 c.no_counts.result.now c.in-Err-Failed.ensures.some
    (c.no_counts.ensures ∙ ap (λ w. tally_text w no_tally) c.is_some-in-Err-Failed.ensures) c.in-Err-Failed.ensures.course c.put_anyway.ensures.course

pub returns-clause-course : goal.returns-clause-course
returns-clause-course g c =
    watch_short (inputs_of c.args.inputs) (g.O.Sink.stream c.args.out.now) c.args.options.now
    (g.L.Trace.events c.args.log.now) (g.L.Trace.events c.watch_if.new.log) [] c.args.watch.now
    (g.W.Wire.told c.args.wire.now) (g.W.Wire.told c.watch_if.new.wire) c.in-Err-NoMemory.field-0 c.in-Err-NoMemory.ensures.some c.in-Err-NoMemory.ensures.course
