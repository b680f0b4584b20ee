use Rattle.std.proofs.Common.{inl, []}
use Rattle.run_report.specs.declared.status.Status.TheVariants as status
use Rattle.command_replay.specs.Scripts.{scripted_of}
use Rattle.command_replay.proofs.Runs.{run_ends, never_wire}
use Rattle.command_replay.proofs.Courses.{plays_then_puts, plays_nothing, reads_then_plays, reads_stop_replay}
use Rattle.command_replay.proofs.replaying.replay.Goals as goal

pub returns-in-Ok-play-clause-ends : goal.returns-in-Ok-play-clause-ends
returns-in-Ok-play-clause-ends g c = λ map told. inl (record {
  script = scripted_of c.in-Ok.script;
  taken = c.in-Ok.ensures.ends map told;
  ends = run_ends (scripted_of c.in-Ok.script) c.args.command.now.limits c.in-Ok-play.finished.end c.in-Ok-play.finished.text.items c.in-Ok-play.ensures _ _ _ c.put_end.result
      (rw c.deref.ensures.value at c.put_end.ensures.ends);
})

pub returns-in-Ok-play-clause-no_wire : goal.returns-in-Ok-play-clause-no_wire
returns-in-Ok-play-clause-no_wire g c = λ e.
    never_wire (scripted_of c.in-Ok.script) c.args.command.now.limits _ _ _ c.put_end.result
    (run_ends (scripted_of c.in-Ok.script) c.args.command.now.limits c.in-Ok-play.finished.end c.in-Ok-play.finished.text.items c.in-Ok-play.ensures _ _ _ c.put_end.result
    (rw c.deref.ensures.value at c.put_end.ensures.ends)) e

pub returns-in-Ok-play-clause-course : goal.returns-in-Ok-play-clause-course
returns-in-Ok-play-clause-course g c =
    let mid = g.L.Trace.events c.load_noted.new.log in
    let now = g.L.Trace.events c.put_end.new.log in
    reads_then_plays c.args.command.now (g.O.Sink.stream c.args.out.now) (g.F.Files.contents c.args.files.now) c.put_end.result (g.L.Trace.events c.args.log.now) mid now
    c.in-Ok.script c.in-Ok.ensures.course
    (plays_then_puts c.args.command.now (g.O.Sink.stream c.args.out.now) (g.F.Files.contents c.args.files.now) c.put_end.result [] mid now c.in-Ok.script c.in-Ok-play.finished.end c.in-Ok-play.finished.text.items c.deref.result.now
    c.in-Ok-play.ensures c.deref.ensures.value c.put_end.ensures.course)

pub returns-in-Err-play-clause-course : goal.returns-in-Err-play-clause-course
returns-in-Err-play-clause-course g c =
    let mid = g.L.Trace.events c.load_noted.new.log in
    reads_then_plays c.args.command.now (g.O.Sink.stream c.args.out.now) (g.F.Files.contents c.args.files.now) status.NoMemory (g.L.Trace.events c.args.log.now) mid mid
    c.in-Ok.script c.in-Ok.ensures.course (plays_nothing c.args.command.now (g.O.Sink.stream c.args.out.now) (g.F.Files.contents c.args.files.now) c.in-Ok.script mid)

pub returns-in-Err-clause-course : goal.returns-in-Err-clause-course
returns-in-Err-clause-course g c =
    reads_stop_replay c.args.command.now (g.O.Sink.stream c.args.out.now) (g.F.Files.contents c.args.files.now) c.from.result (g.L.Trace.events c.args.log.now) (g.L.Trace.events c.load_noted.new.log) [] c.in-Err.fault c.from.ensures c.in-Err.ensures.course
