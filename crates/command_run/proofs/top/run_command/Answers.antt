use Rattle.command_spec.specs.Inputs.{inputs_of_text, inputs_of_report}
use Rattle.command_spec.specs.declared.Command.TheVariants.{Text, Report, Build, Serve, Replay}
use Rattle.run_report.specs.declared.reports.Report.{Report as Reported}
use Rattle.command_answers.specs.Texts.{TextAnswers}
use Rattle.command_answers.specs.Reports.{ReportAnswers}
use Rattle.command_run.specs.Top.{text_report}
use Rattle.command_run.proofs.Courses.{answer_course, course_of}
use Rattle.command_run.proofs.Ends.{text_told, report_told, build_told, serve_told, replay_told, build_writes, serve_uses}
use Rattle.command_run.proofs.Ends.{text_read_rose, report_read_rose, build_read_rose, serve_read_rose, replay_read_rose}
use Rattle.command_run.proofs.Ends.{build_file_rose, no_file_rose}
use Rattle.command_run.proofs.top.run_command.Goals as goal

pub returns-in-Text-clause-ends : goal.returns-in-Text-clause-ends
returns-in-Text-clause-ends g c = λ map told. text_told (g.F.Files.failed_reads c.args.files.now) (g.F.Files.failed_reads c.text_lent-answer.new.files) (g.F.Files.failed_writes c.args.files.now) (g.F.Files.failed_writes c.text_lent-answer.new.files) (g.O.Sink.text c.args.out.now) (g.O.Sink.text c.put_answer.new.out) (g.O.Sink.failed c.args.out.now) (g.O.Sink.failed c.put_answer.new.out) (g.W.Wire.told c.args.wire.now) (g.W.Wire.told c.args.wire.now) _ _ map c.args.command.now c.in-Text.command c.text_lent-answer.result _ c.text_lent-answer.ensures.same told c.in-Text.is (c.text_lent-answer.ensures.ends map told) c.put_answer.ensures.ends

pub returns-in-Text-clause-read_cause : goal.returns-in-Text-clause-read_cause
returns-in-Text-clause-read_cause g c = text_read_rose c.args.command.now c.in-Text.command c.text_lent-answer.result _ _ _ _ _ c.in-Text.is c.put_answer.ensures.ends c.text_lent-answer.ensures.cause

pub returns-in-Text-clause-file_cause : goal.returns-in-Text-clause-file_cause
returns-in-Text-clause-file_cause g c = no_file_rose c.args.command.now (Text c.in-Text.command) _ _ _ _ c.in-Text.is tt

pub returns-in-Report-clause-ends : goal.returns-in-Report-clause-ends
returns-in-Report-clause-ends g c = λ map told. report_told (g.F.Files.failed_reads c.args.files.now) (g.F.Files.failed_reads c.report_lent-answer.new.files) (g.F.Files.failed_writes c.args.files.now) (g.F.Files.failed_writes c.report_lent-answer.new.files) (g.O.Sink.text c.args.out.now) (g.O.Sink.text c.put_report.new.out) (g.O.Sink.failed c.args.out.now) (g.O.Sink.failed c.put_report.new.out) (g.W.Wire.told c.args.wire.now) (g.W.Wire.told c.args.wire.now) _ _ map c.args.command.now c.in-Report.command c.report_lent-answer.result _ c.report_lent-answer.ensures.same told c.in-Report.is (c.report_lent-answer.ensures.ends map told) c.put_report.ensures.ends

pub returns-in-Report-clause-read_cause : goal.returns-in-Report-clause-read_cause
returns-in-Report-clause-read_cause g c = report_read_rose c.args.command.now c.in-Report.command c.report_lent-answer.result _ _ _ _ _ c.in-Report.is c.put_report.ensures.ends c.report_lent-answer.ensures.cause

pub returns-in-Report-clause-file_cause : goal.returns-in-Report-clause-file_cause
returns-in-Report-clause-file_cause g c = no_file_rose c.args.command.now (Report c.in-Report.command) _ _ _ _ c.in-Report.is tt

pub returns-in-Build-clause-ends : goal.returns-in-Build-clause-ends
returns-in-Build-clause-ends g c = λ map told. build_told (g.F.Files.failed_reads c.args.files.now) (g.F.Files.failed_reads c.build.new.files) (g.F.Files.failed_writes c.args.files.now) (g.F.Files.failed_writes c.build.new.files) (g.O.Sink.text c.args.out.now) (g.O.Sink.text c.build.new.out) (g.O.Sink.failed c.args.out.now) (g.O.Sink.failed c.build.new.out) (g.W.Wire.told c.args.wire.now) (g.W.Wire.told c.args.wire.now) _ map c.args.command.now c.in-Build.command _ c.in-Build.is (c.build.ensures.ends map told)

pub returns-in-Build-clause-read_cause : goal.returns-in-Build-clause-read_cause
returns-in-Build-clause-read_cause g c = build_read_rose c.args.command.now c.in-Build.command _ _ _ c.in-Build.is c.build.ensures.read_cause

pub returns-in-Build-clause-files : goal.returns-in-Build-clause-files
returns-in-Build-clause-files g c = λ none. absurd (build_writes c.args.command.now c.in-Build.command c.in-Build.is none)

pub returns-in-Build-clause-file_cause : goal.returns-in-Build-clause-file_cause
returns-in-Build-clause-file_cause g c = build_file_rose c.args.command.now c.in-Build.command _ _ _ _ c.in-Build.is c.build.ensures.file_cause

pub returns-in-Serve-clause-ends : goal.returns-in-Serve-clause-ends
returns-in-Serve-clause-ends g c = λ map told. serve_told (g.F.Files.failed_reads c.args.files.now) (g.F.Files.failed_reads c.serve.new.files) (g.F.Files.failed_writes c.args.files.now) (g.F.Files.failed_writes c.serve.new.files) (g.O.Sink.text c.args.out.now) (g.O.Sink.text c.serve.new.out) (g.O.Sink.failed c.args.out.now) (g.O.Sink.failed c.serve.new.out) (g.W.Wire.told c.args.wire.now) (g.W.Wire.told c.serve.new.wire) _ _ map c.args.command.now c.in-Serve.command _ c.serve.ensures.same told c.in-Serve.is (c.serve.ensures.ends map told)

pub returns-in-Serve-clause-wire : goal.returns-in-Serve-clause-wire
returns-in-Serve-clause-wire g c = λ none. absurd (serve_uses c.args.command.now c.in-Serve.command c.in-Serve.is none)

pub returns-in-Serve-clause-read_cause : goal.returns-in-Serve-clause-read_cause
returns-in-Serve-clause-read_cause g c = serve_read_rose c.args.command.now c.in-Serve.command _ _ _ c.in-Serve.is c.serve.ensures.read_cause

pub returns-in-Serve-clause-file_cause : goal.returns-in-Serve-clause-file_cause
returns-in-Serve-clause-file_cause g c = no_file_rose c.args.command.now (Serve c.in-Serve.command) _ _ _ _ c.in-Serve.is tt

pub returns-in-Replay-clause-ends : goal.returns-in-Replay-clause-ends
returns-in-Replay-clause-ends g c = λ map told. replay_told (g.F.Files.failed_reads c.args.files.now) (g.F.Files.failed_reads c.replay.new.files) (g.F.Files.failed_writes c.args.files.now) (g.F.Files.failed_writes c.replay.new.files) (g.O.Sink.text c.args.out.now) (g.O.Sink.text c.replay.new.out) (g.O.Sink.failed c.args.out.now) (g.O.Sink.failed c.replay.new.out) (g.W.Wire.told c.args.wire.now) (g.W.Wire.told c.args.wire.now) _ _ map c.args.command.now c.in-Replay.command _ c.replay.ensures.same told c.in-Replay.is (c.replay.ensures.ends map told)

pub returns-in-Replay-clause-read_cause : goal.returns-in-Replay-clause-read_cause
returns-in-Replay-clause-read_cause g c = replay_read_rose c.args.command.now c.in-Replay.command _ _ _ c.in-Replay.is c.replay.ensures.read_cause

pub returns-in-Replay-clause-file_cause : goal.returns-in-Replay-clause-file_cause
returns-in-Replay-clause-file_cause g c = no_file_rose c.args.command.now (Replay c.in-Replay.command) _ _ _ _ c.in-Replay.is tt

pub returns-in-Build-clause-wire_cause : goal.returns-in-Build-clause-wire_cause
returns-in-Build-clause-wire_cause g c = λ e. absurd (c.build.ensures.no_wire e)

pub returns-in-Replay-clause-wire_cause : goal.returns-in-Replay-clause-wire_cause
returns-in-Replay-clause-wire_cause g c = λ e. absurd (c.replay.ensures.no_wire e)

pub returns-in-Text-clause-course : goal.returns-in-Text-clause-course
returns-in-Text-clause-course g c =
    course_of (g.O.Sink.stream c.args.out.now) (g.F.Files.contents c.args.files.now) (g.W.Wire.told c.args.wire.now) (g.W.Wire.told c.args.wire.now)
    (g.L.Trace.events c.args.log.now) (g.L.Trace.events c.put_answer.new.log) _ c.args.command.now (Text c.in-Text.command) c.in-Text.is
    (answer_course text_report (g.O.Sink.stream c.args.out.now) (λ map. TextAnswers map c.in-Text.command) (inputs_of_text c.in-Text.command) (g.F.Files.contents c.args.files.now)
    (g.L.Trace.events c.args.log.now) (g.L.Trace.events c.text_lent-answer.new.log) (g.L.Trace.events c.put_answer.new.log) c.text_lent-answer.result _
    c.text_lent-answer.ensures.reads c.put_answer.ensures.puts)

pub returns-in-Report-clause-course : goal.returns-in-Report-clause-course
returns-in-Report-clause-course g c =
    course_of (g.O.Sink.stream c.args.out.now) (g.F.Files.contents c.args.files.now) (g.W.Wire.told c.args.wire.now) (g.W.Wire.told c.args.wire.now)
    (g.L.Trace.events c.args.log.now) (g.L.Trace.events c.put_report.new.log) _ c.args.command.now (Report c.in-Report.command) c.in-Report.is
    (answer_course (λ (r : Reported). r) (g.O.Sink.stream c.args.out.now) (λ map. ReportAnswers map c.in-Report.command) (inputs_of_report c.in-Report.command) (g.F.Files.contents c.args.files.now)
    (g.L.Trace.events c.args.log.now) (g.L.Trace.events c.report_lent-answer.new.log) (g.L.Trace.events c.put_report.new.log) c.report_lent-answer.result _
    c.report_lent-answer.ensures.reads c.put_report.ensures.puts)

pub returns-in-Build-clause-course : goal.returns-in-Build-clause-course
returns-in-Build-clause-course g c =
    course_of (g.O.Sink.stream c.args.out.now) (g.F.Files.contents c.args.files.now) (g.W.Wire.told c.args.wire.now) (g.W.Wire.told c.args.wire.now)
    (g.L.Trace.events c.args.log.now) (g.L.Trace.events c.build.new.log) _ c.args.command.now (Build c.in-Build.command) c.in-Build.is
    c.build.ensures.course

pub returns-in-Serve-clause-course : goal.returns-in-Serve-clause-course
returns-in-Serve-clause-course g c =
    course_of (g.O.Sink.stream c.args.out.now) (g.F.Files.contents c.args.files.now) (g.W.Wire.told c.args.wire.now) (g.W.Wire.told c.serve.new.wire)
    (g.L.Trace.events c.args.log.now) (g.L.Trace.events c.serve.new.log) _ c.args.command.now (Serve c.in-Serve.command) c.in-Serve.is
    c.serve.ensures.course

pub returns-in-Replay-clause-course : goal.returns-in-Replay-clause-course
returns-in-Replay-clause-course g c =
    course_of (g.O.Sink.stream c.args.out.now) (g.F.Files.contents c.args.files.now) (g.W.Wire.told c.args.wire.now) (g.W.Wire.told c.args.wire.now)
    (g.L.Trace.events c.args.log.now) (g.L.Trace.events c.replay.new.log) _ c.args.command.now (Replay c.in-Replay.command) c.in-Replay.is
    c.replay.ensures.course
