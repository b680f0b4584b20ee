use Rattle.std.specs.Prelude.{None}
use Rattle.std.proofs.Common.{inl, []}
use Rattle.site_inputs.specs.Values.{inputs_of}
use Rattle.site_inputs.specs.Outside.{outside}
use Rattle.command_serve.proofs.Told.{never_silent, never_usage, over_read_rose}
use Rattle.command_serve.proofs.Courses.{reads_then_serves, reads_stop_serve}
use Rattle.command_serve.proofs.serve.Goals as goal

pub returns-in-Ok-clause-silent : goal.returns-in-Ok-clause-silent
returns-in-Ok-clause-silent g c = λ quiet.
    absurd (never_silent (inputs_of c.in-Ok.inputs) c.args.command.now.watch c.args.command.now.options (outside (λ path. None) (λ path. 0) (λ path. 0) (g.O.Sink.text c.args.out.now) (g.O.Sink.failed c.args.out.now) (g.W.Wire.told c.args.wire.now)) (outside (λ path. None) (λ path. 0) (λ path. 0) (g.O.Sink.text c.serve_over.new.out) (g.O.Sink.failed c.serve_over.new.out) (g.W.Wire.told c.serve_over.new.wire)) c.serve_over.result
    (c.serve_over.ensures.ends (λ path. None) (λ path. None) (λ path. 0) (λ path. 0) (λ path. 0) (λ path. 0)) quiet)

pub returns-in-Ok-clause-quiet : goal.returns-in-Ok-clause-quiet
returns-in-Ok-clause-quiet g c = λ quiet.
    absurd (never_silent (inputs_of c.in-Ok.inputs) c.args.command.now.watch c.args.command.now.options (outside (λ path. None) (λ path. 0) (λ path. 0) (g.O.Sink.text c.args.out.now) (g.O.Sink.failed c.args.out.now) (g.W.Wire.told c.args.wire.now)) (outside (λ path. None) (λ path. 0) (λ path. 0) (g.O.Sink.text c.serve_over.new.out) (g.O.Sink.failed c.serve_over.new.out) (g.W.Wire.told c.serve_over.new.wire)) c.serve_over.result
    (c.serve_over.ensures.ends (λ path. None) (λ path. None) (λ path. 0) (λ path. 0) (λ path. 0) (λ path. 0)) quiet)

pub returns-in-Ok-clause-words : goal.returns-in-Ok-clause-words
returns-in-Ok-clause-words g c = λ usage.
    never_usage (inputs_of c.in-Ok.inputs) c.args.command.now.watch c.args.command.now.options (outside (λ path. None) (λ path. 0) (λ path. 0) (g.O.Sink.text c.args.out.now) (g.O.Sink.failed c.args.out.now) (g.W.Wire.told c.args.wire.now)) (outside (λ path. None) (λ path. 0) (λ path. 0) (g.O.Sink.text c.serve_over.new.out) (g.O.Sink.failed c.serve_over.new.out) (g.W.Wire.told c.serve_over.new.wire)) c.serve_over.result
    (c.serve_over.ensures.ends (λ path. None) (λ path. None) (λ path. 0) (λ path. 0) (λ path. 0) (λ path. 0)) usage

pub returns-in-Ok-clause-read_cause : goal.returns-in-Ok-clause-read_cause
returns-in-Ok-clause-read_cause g c =
    over_read_rose (inputs_of c.in-Ok.inputs) c.args.command.now.watch c.args.command.now.options (outside (λ path. None) (λ path. 0) (λ path. 0) (g.O.Sink.text c.args.out.now) (g.O.Sink.failed c.args.out.now) (g.W.Wire.told c.args.wire.now)) (outside (λ path. None) (λ path. 0) (λ path. 0) (g.O.Sink.text c.serve_over.new.out) (g.O.Sink.failed c.serve_over.new.out) (g.W.Wire.told c.serve_over.new.wire)) _ _ _ c.serve_over.result
    (c.serve_over.ensures.ends (λ path. None) (λ path. None) (λ path. 0) (λ path. 0) (λ path. 0) (λ path. 0))

pub returns-in-Ok-clause-ends : goal.returns-in-Ok-clause-ends
returns-in-Ok-clause-ends g c = λ x e.
    inl (record {
      inputs = inputs_of c.in-Ok.inputs;
      taken = (c.in-Ok.ensures.ends x e);
      ends = c.serve_over.ensures.ends x x (g.F.Files.failed_reads c.args.files.now) (g.F.Files.failed_reads c.load_noted.new.files) (g.F.Files.failed_writes c.args.files.now) (g.F.Files.failed_writes c.load_noted.new.files);
    })

pub returns-in-Ok-clause-course : goal.returns-in-Ok-clause-course
returns-in-Ok-clause-course g c =
    reads_then_serves c.args.command.now (g.O.Sink.stream c.args.out.now) (g.F.Files.contents c.args.files.now) (g.W.Wire.told c.args.wire.now) (g.W.Wire.told c.serve_over.new.wire) c.serve_over.result
    (g.L.Trace.events c.args.log.now) (g.L.Trace.events c.load_noted.new.log) (g.L.Trace.events c.serve_over.new.log) c.in-Ok.inputs c.in-Ok.ensures.course c.serve_over.ensures.course

pub returns-in-Err-clause-course : goal.returns-in-Err-clause-course
returns-in-Err-clause-course g c =
    reads_stop_serve c.args.command.now (g.O.Sink.stream c.args.out.now) (g.F.Files.contents c.args.files.now) (g.W.Wire.told c.args.wire.now) (g.W.Wire.told c.args.wire.now) c.from.result
    (g.L.Trace.events c.args.log.now) (g.L.Trace.events c.load_noted.new.log) [] c.in-Err.fault c.from.ensures c.in-Err.ensures.course
