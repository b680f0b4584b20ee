use Rattle.serve_run.proofs.PutLemmas.{put_is}
use Rattle.run_report.proofs.Added.{one_put}
use Rattle.serve_run.proofs.puts.put_anyway.Goals as goal

pub returns-clause-ends : goal.returns-clause-ends
returns-clause-ends g c = put_is c.put_noted.result _ _ _ _ _ c.put_noted.ensures.whole c.put_noted.ensures.part c.put_noted.ensures.cause

pub returns-clause-course : goal.returns-clause-course
returns-clause-course g c = one_put c.put_noted.result (g.O.Sink.stream c.args.out.now) c.args.text.now (g.L.Trace.events c.args.log.now) (g.L.Trace.events c.put_noted.new.log) c.put_noted.ensures.course
