use Rattle.std.proofs.Common.{inl, inr, refl, subst, ◌∙◌}
use Rattle.std.specs.Prelude.{List, ℕ}
use Rattle.edge_io.specs.Counts.{Rose}
use Rattle.serve_run.specs.Puts.{EndPuts}
use Rattle.command_serve.proofs.Courses.{counts_added, counts_short}
use Rattle.command_serve.proofs.put_counts.Goals as goal

pub returns-in-Ok-clause-ends : goal.returns-in-Ok-clause-ends
returns-in-Ok-clause-ends g c = inl (subst (λ (text : List ℕ). EndPuts c.args.served.now.end text (g.O.Sink.text c.args.out.now) (g.O.Sink.text c.put_end.new.out) (Rose (g.O.Sink.failed c.args.out.now) (g.O.Sink.failed c.put_end.new.out)) c.put_end.result) (c.deref.ensures.value ∙ c.in-Ok.ensures) c.put_end.ensures.ends)

pub returns-in-Err-clause-ends : goal.returns-in-Err-clause-ends
returns-in-Err-clause-ends g c = inr (refl, refl)

pub returns-in-Ok-clause-course : goal.returns-in-Ok-clause-course
returns-in-Ok-clause-course g c =
    counts_added (g.O.Sink.stream c.args.out.now) c.args.watches c.args.served.now c.deref.result.now c.put_end.result (g.L.Trace.events c.args.log.now) (g.L.Trace.events c.put_end.new.log)
    (c.deref.ensures.value ∙ c.in-Ok.ensures) c.put_end.ensures.course

pub returns-in-Err-clause-course : goal.returns-in-Err-clause-course
returns-in-Err-clause-course g c =
    counts_short (g.O.Sink.stream c.args.out.now) c.args.watches c.args.served.now (g.L.Trace.events c.args.log.now)
