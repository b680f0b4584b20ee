use Rattle.std.proofs.Common.{◌∙◌, sym, ap, subst}
use Rattle.std.specs.Prelude.{option_map}
use Rattle.std.specs.Borrow.{Bor}
use Rattle.edge_io.specs.Counts.{Rose}
use Rattle.command_spec.specs.declared.Command.{Command}
use Rattle.command_run.specs.Top.{WritesNoFile, UsesNoWire}
use Rattle.command_run.proofs.Ends.{no_command_told, command_told, given_read_rose, given_file_rose}
use Rattle.command_run.proofs.Courses.{given_course, no_course}
use Rattle.command_run.proofs.top.run.Goals as goal

pub returns-in-None-clause-ends : goal.returns-in-None-clause-ends
returns-in-None-clause-ends g c = λ map told. no_command_told (g.F.Files.failed_reads c.args.files.now) (g.F.Files.failed_reads c.args.files.now) (g.F.Files.failed_writes c.args.files.now) (g.F.Files.failed_writes c.args.files.now) (g.O.Sink.text c.args.out.now) (g.O.Sink.text c.args.out.now) (g.O.Sink.failed c.args.out.now) (g.O.Sink.failed c.args.out.now) (g.W.Wire.told c.args.wire.now) (g.W.Wire.told c.args.wire.now) _ map _ (sym c.command.ensures.exact ∙ ap (option_map (λ (b : Bor Command). b.now)) c.in-None.is) told

pub returns-in-Some-clause-ends : goal.returns-in-Some-clause-ends
returns-in-Some-clause-ends g c = λ map told. command_told (g.F.Files.failed_reads c.args.files.now) (g.F.Files.failed_reads c.run_command.new.files) (g.F.Files.failed_writes c.args.files.now) (g.F.Files.failed_writes c.run_command.new.files) (g.O.Sink.text c.args.out.now) (g.O.Sink.text c.run_command.new.out) (g.O.Sink.failed c.args.out.now) (g.O.Sink.failed c.run_command.new.out) (g.W.Wire.told c.args.wire.now) (g.W.Wire.told c.run_command.new.wire) _ map _ c.in-Some.command.now _ (sym c.command.ensures.exact ∙ ap (option_map (λ (b : Bor Command). b.now)) c.in-Some.is) (c.run_command.ensures.ends map told)

pub returns-in-Some-clause-files : goal.returns-in-Some-clause-files
returns-in-Some-clause-files g c = λ none. c.run_command.ensures.files (subst WritesNoFile (sym c.command.ensures.exact ∙ ap (option_map (λ (b : Bor Command). b.now)) c.in-Some.is) none)

pub returns-in-Some-clause-file_cause : goal.returns-in-Some-clause-file_cause
returns-in-Some-clause-file_cause g c = given_file_rose _ c.in-Some.command.now _ _ _ _ (sym c.command.ensures.exact ∙ ap (option_map (λ (b : Bor Command). b.now)) c.in-Some.is) c.run_command.ensures.file_cause

pub returns-in-Some-clause-read_cause : goal.returns-in-Some-clause-read_cause
returns-in-Some-clause-read_cause g c = given_read_rose _ c.in-Some.command.now _ _ _ (sym c.command.ensures.exact ∙ ap (option_map (λ (b : Bor Command). b.now)) c.in-Some.is) c.run_command.ensures.read_cause

pub returns-in-Some-clause-wire : goal.returns-in-Some-clause-wire
returns-in-Some-clause-wire g c = λ none. c.run_command.ensures.wire (subst UsesNoWire (sym c.command.ensures.exact ∙ ap (option_map (λ (b : Bor Command). b.now)) c.in-Some.is) none)

pub returns-in-Some-clause-course : goal.returns-in-Some-clause-course
returns-in-Some-clause-course g c =
    given_course (g.O.Sink.stream c.args.out.now) (g.F.Files.contents c.args.files.now) (g.W.Wire.told c.args.wire.now) (g.W.Wire.told c.run_command.new.wire)
    (g.L.Trace.events c.args.log.now) (g.L.Trace.events c.run_command.new.log) _ _ c.in-Some.command.now
    (sym c.command.ensures.exact ∙ ap (option_map (λ (b : Bor Command). b.now)) c.in-Some.is) c.run_command.ensures.course

pub returns-in-None-clause-course : goal.returns-in-None-clause-course
returns-in-None-clause-course g c =
    no_course (g.O.Sink.stream c.args.out.now) (g.F.Files.contents c.args.files.now) (g.W.Wire.told c.args.wire.now) (g.W.Wire.told c.args.wire.now)
    (g.L.Trace.events c.args.log.now) _ (sym c.command.ensures.exact ∙ ap (option_map (λ (b : Bor Command). b.now)) c.in-None.is)
