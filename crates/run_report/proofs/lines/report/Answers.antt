use Rattle.std.proofs.Common.{sym, subst}
use Rattle.edge_io.specs.Sink.{GainsPart}
use Rattle.run_report.specs.Report.{line}
use Rattle.run_report.proofs.lines.report.Goals as goal

pub returns-in-FileFault-clause-part : goal.returns-in-FileFault-clause-part
returns-in-FileFault-clause-part g c =
    subst (λ s. GainsPart (g.E.Sink.text c.args.err.now) (g.E.Sink.text c.put_file_line.new.err) (line s)) (sym c.in-FileFault.is) c.put_file_line.ensures.part
