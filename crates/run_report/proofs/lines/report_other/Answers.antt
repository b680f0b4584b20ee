use Rattle.std.proofs.Common.{subst, sym, ◌∙◌}
use Rattle.std.specs.Prelude.{take}
use Rattle.edge_io.specs.Sink.{Gains, GainsPart}
use Rattle.run_report.proofs.OwnLines.{own_line, put_whole}
use Rattle.run_report.proofs.ToldLines.{put_notes, own_told}
use Rattle.run_report.proofs.lines.report_other.Goals as goal

pub returns-in-Ok-clause-part : goal.returns-in-Ok-clause-part
returns-in-Ok-clause-part g c =
    subst (GainsPart (g.E.Sink.text c.args.err.now) (g.E.Sink.text c.put.new.self))
    (c.deref.ensures.value ∙ c.in-Ok.ensures ∙ sym (own_line c.args.status (λ f. c.in_default.ensures.fixed f c.requires.other))) c.put.ensures.part

pub returns-in-Err-clause-whole : goal.returns-in-Err-clause-whole
returns-in-Err-clause-whole g c = λ no. put_whole _ _ c.put-in-Err.result c.put-in-Err.ensures.whole c.put-in-Err.ensures.cause.failed no

pub returns-in-Ok-clause-traced : goal.returns-in-Ok-clause-traced
returns-in-Ok-clause-traced g c =
    let own = c.deref.ensures.value ∙ c.in-Ok.ensures in
    own_told c.args.status (g.E.Sink.stream c.args.err.now) c.deref.result.now (g.E.Sink.trace c.args.err.now) (g.E.Sink.trace c.put.new.self)
    (own ∙ sym (own_line c.args.status (λ f. c.in_default.ensures.fixed f c.requires.other))) own c.requires.other
    (put_notes (g.E.Sink.stream c.args.err.now) (g.E.Sink.trace c.args.err.now) (g.E.Sink.trace c.put.new.self) c.deref.result.now c.put.result
    (λ taken. Gains (g.E.Sink.text c.args.err.now) (g.E.Sink.text c.put.new.self) (take taken c.deref.result.now)) c.put.ensures.traced)
