use Rattle.std.proofs.Common.{ap, sym, subst, ◌∙◌}
use Rattle.command_run.specs.Main.{Seen, seen}
use Rattle.command_run.proofs.Exits.{without_words, its_line_is_fixed}
use Rattle.run_report.specs.Report.{IsFixed}
use Rattle.command_run.proofs.Courses.{run_with, run_without}
use Rattle.command_run.proofs.whole.run_main.Goals as goal

pub returns-in-Ok-clause-run : goal.returns-in-Ok-clause-run
returns-in-Ok-clause-run g c =
    let e = c.strudel-status.ensures in
    let first : Seen = seen (g.F.Files.contents c.args.files.now) (g.F.Files.failed_reads c.args.files.now) (g.F.Files.failed_writes c.args.files.now) (g.O.Sink.text c.args.out.now) (g.O.Sink.failed c.args.out.now)
    (g.E.Sink.text c.args.err.now) (g.E.Sink.failed c.args.err.now) (g.W.Wire.told c.args.wire.now) in
    let last : Seen = seen (g.F.Files.contents c.strudel-status.new.files) (g.F.Files.failed_reads c.strudel-status.new.files) (g.F.Files.failed_writes c.strudel-status.new.files) (g.O.Sink.text c.strudel-status.new.out) (g.O.Sink.failed c.strudel-status.new.out)
    (g.E.Sink.text c.strudel-status.new.err) (g.E.Sink.failed c.strudel-status.new.err) (g.W.Wire.told c.strudel-status.new.wire) in
    run_with (g.O.Sink.stream c.args.out.now) (g.E.Sink.stream c.args.err.now) c.args.words.now first last
    (g.L.Trace.events c.args.log.now) (g.L.Trace.events c.strudel-status.new.log) _ c.strudel-status.result c.code.ensures c.in-Ok.words c.in-Ok.is
    (record {
      usage = e.usage;
      no_command = λ n. (e.no_command n, ap g.O.Sink.text (e.no_words n));
      ends = e.ends;
      silent = λ s. (ap g.O.Sink.text (e.silent s), ap g.W.Wire.told (e.quiet s));
      files = e.files;
      wire = λ u. ap g.W.Wire.told (e.wire u);
      wire_cause = e.wire_cause;
      exact = e.exact;
      holds = e.holds;
      found = e.found;
      complete = e.complete;
      read_cause = e.read_cause;
      write_cause = e.write_cause;
      file_cause = e.file_cause;
      whole_line = e.line;
      part_line = e.part;
    })
    e.happens

pub returns-in-Err-clause-run : goal.returns-in-Err-clause-run
returns-in-Err-clause-run g c =
    let first : Seen = seen (g.F.Files.contents c.args.files.now) (g.F.Files.failed_reads c.args.files.now) (g.F.Files.failed_writes c.args.files.now) (g.O.Sink.text c.args.out.now) (g.O.Sink.failed c.args.out.now)
    (g.E.Sink.text c.args.err.now) (g.E.Sink.failed c.args.err.now) (g.W.Wire.told c.args.wire.now) in
    let last : Seen = seen (g.F.Files.contents c.args.files.now) (g.F.Files.failed_reads c.args.files.now) (g.F.Files.failed_writes c.args.files.now) (g.O.Sink.text c.args.out.now) (g.O.Sink.failed c.args.out.now)
    (g.E.Sink.text c.line_lent-status.new.err) (g.E.Sink.failed c.line_lent-status.new.err) (g.W.Wire.told c.args.wire.now) in
    let its = c.line_lent-status.ensures.fixed (subst IsFixed (sym c.status_of_no_words.ensures) (its_line_is_fixed c.in-Err.reason)) ∙ c.status_of_no_words.ensures in
    run_without (g.O.Sink.stream c.args.out.now) (g.E.Sink.stream c.args.err.now) c.args.words.now first last
    (g.L.Trace.events c.args.log.now) (g.L.Trace.events c.line_lent-status.new.log) _ c.line_lent-status.result c.code-in-Err.ensures
    c.in-Err.reason _ c.in-Err.is c.status_of_no_words.ensures
    (without_words (g.F.Files.contents c.args.files.now) (g.F.Files.failed_reads c.args.files.now) (g.F.Files.failed_writes c.args.files.now) (g.O.Sink.text c.args.out.now) (g.O.Sink.failed c.args.out.now) (g.E.Sink.text c.args.err.now) _ (g.E.Sink.failed c.args.err.now) _ (g.W.Wire.told c.args.wire.now)
    c.in-Err.reason c.line_lent-status.result its c.line_lent-status.ensures.whole c.line_lent-status.ensures.part)
    c.line_lent-status.ensures.told c.line_lent-status.ensures.status c.line_lent-status.ensures.fixed
