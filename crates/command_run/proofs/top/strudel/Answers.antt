use Rattle.std.proofs.Common.{ap}
use Rattle.command_run.proofs.Ends.{reported_told, reported_silent, reported_file_rose}
use Rattle.command_run.proofs.Complete.{complete_told}
use Rattle.command_run.proofs.Exact.{exact_told}
use Rattle.command_run.proofs.Checked.{held_told}
use Rattle.command_run.proofs.Linted.{found_told}
use Rattle.command_spec.specs.Words.{command}
use Rattle.command_run.specs.IsRun.{Course}
use Rattle.command_run.proofs.Courses.{line_course}
use Rattle.command_run.proofs.top.strudel.Goals as goal

pub returns-clause-ends : goal.returns-clause-ends
returns-clause-ends g c = λ map told.
    reported_told (g.F.Files.failed_reads c.args.files.now) (g.F.Files.failed_reads c.run-status.new.files) (g.F.Files.failed_writes c.args.files.now) (g.F.Files.failed_writes c.run-status.new.files) (g.O.Sink.text c.args.out.now) (g.O.Sink.text c.run-status.new.out) (g.O.Sink.failed c.args.out.now) (g.O.Sink.failed c.run-status.new.out) (g.W.Wire.told c.args.wire.now) (g.W.Wire.told c.run-status.new.wire) _ map _ _ _ (c.run-status.ensures.ends map told) (λ quiet. ap g.O.Sink.text (c.run-status.ensures.silent quiet)) c.line_lent.ensures.fixed c.line_lent.ensures.status

pub returns-clause-file_cause : goal.returns-clause-file_cause
returns-clause-file_cause g c = reported_file_rose _ _ _ _ _ _ c.run-status.ensures.file_cause c.line_lent.ensures.status

pub returns-clause-silent : goal.returns-clause-silent
returns-clause-silent g c = reported_silent _ _ c.run-status.ensures.silent c.line_lent.ensures.status

pub returns-clause-exact : goal.returns-clause-exact
returns-clause-exact g c = λ map told command is_given.
    exact_told (g.F.Files.failed_reads c.args.files.now) (g.F.Files.failed_reads c.run-status.new.files) (g.F.Files.failed_writes c.args.files.now) (g.F.Files.failed_writes c.run-status.new.files) (g.O.Sink.text c.args.out.now) (g.O.Sink.text c.run-status.new.out) (g.O.Sink.failed c.args.out.now) (g.O.Sink.failed c.run-status.new.out) (g.W.Wire.told c.args.wire.now) (g.W.Wire.told c.run-status.new.wire) (g.F.Files.contents c.args.files.now) (g.F.Files.contents c.run-status.new.files) map _ command _ _ is_given
    (c.run-status.ensures.ends map told) c.run-status.ensures.read_cause c.run-status.ensures.write_cause c.line_lent.ensures.status

pub returns-clause-holds : goal.returns-clause-holds
returns-clause-holds g c = λ map told command is_given.
    held_told (g.F.Files.failed_reads c.args.files.now) (g.F.Files.failed_reads c.run-status.new.files) (g.F.Files.failed_writes c.args.files.now) (g.F.Files.failed_writes c.run-status.new.files) (g.O.Sink.text c.args.out.now) (g.O.Sink.text c.run-status.new.out) (g.O.Sink.failed c.args.out.now) (g.O.Sink.failed c.run-status.new.out) (g.W.Wire.told c.args.wire.now) (g.W.Wire.told c.run-status.new.wire) _ map _ command _ is_given (returns-clause-ends g c map told)

pub returns-clause-found : goal.returns-clause-found
returns-clause-found g c = λ map told command is_given.
    found_told (g.F.Files.failed_reads c.args.files.now) (g.F.Files.failed_reads c.run-status.new.files) (g.F.Files.failed_writes c.args.files.now) (g.F.Files.failed_writes c.run-status.new.files) (g.O.Sink.text c.args.out.now) (g.O.Sink.text c.run-status.new.out) (g.O.Sink.failed c.args.out.now) (g.O.Sink.failed c.run-status.new.out) (g.W.Wire.told c.args.wire.now) (g.W.Wire.told c.run-status.new.wire) _ map _ command _ is_given (returns-clause-ends g c map told)

pub returns-clause-quiet : goal.returns-clause-quiet
returns-clause-quiet g c = reported_silent _ _ c.run-status.ensures.quiet c.line_lent.ensures.status

pub returns-clause-complete : goal.returns-clause-complete
returns-clause-complete g c = λ map told command is_given.
    complete_told (g.F.Files.failed_reads c.args.files.now) (g.F.Files.failed_reads c.run-status.new.files) (g.F.Files.failed_writes c.args.files.now) (g.F.Files.failed_writes c.run-status.new.files) (g.O.Sink.text c.args.out.now) (g.O.Sink.text c.run-status.new.out) (g.O.Sink.failed c.args.out.now) (g.O.Sink.failed c.run-status.new.out) (g.W.Wire.told c.args.wire.now) (g.W.Wire.told c.run-status.new.wire) (g.F.Files.contents c.args.files.now) (g.F.Files.contents c.run-status.new.files) map _ command _ _ is_given
    (c.run-status.ensures.ends map told) c.run-status.ensures.read_cause c.run-status.ensures.write_cause c.run-status.ensures.wire_cause c.line_lent.ensures.status

pub returns-clause-happens : goal.returns-clause-happens
returns-clause-happens g c =
    line_course (g.E.Sink.stream c.args.err.now)
    (Course (g.O.Sink.stream c.args.out.now) (g.F.Files.contents c.args.files.now) (g.W.Wire.told c.args.wire.now) (g.W.Wire.told c.run-status.new.wire) (command c.args.words.now))
    (g.L.Trace.events c.args.log.now) (g.L.Trace.events c.run-status.new.log) (g.L.Trace.events c.line_lent.new.log) c.run-status.result _
    c.run-status.ensures.course c.line_lent.ensures.told c.line_lent.ensures.status c.line_lent.ensures.fixed
