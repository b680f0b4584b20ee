use Rattle.std.proofs.Common.{◌∙◌, subst}
use Rattle.graph_spec.specs.DataGraph.{DataGraph}
use Rattle.site_spec.specs.Site.{Scope}
use Rattle.query_blocks.specs.Blocks.{scope_of}
use Rattle.constraint_spec.specs.Meets.{Meets}
use Rattle.constraint_report.specs.Report.{IsReport}
use Rattle.command_check.proofs.here.report_over.Goals as goal

pub returns : goal.returns
returns c =
    let r = c.in_ok-report.report in
    subst (λ (s : Scope). IsReport (Meets c.args.graph s) c.args.constraints.now r.text r.passed) c.blocks-2.ensures.scope
    (subst (λ (x : DataGraph). IsReport (Meets x (scope_of c.blocks-2.result.now)) c.args.constraints.now r.text r.passed) (c.of-asker.ensures.store ∙ c.in_ok-store.ensures) c.in_ok-report.ensures)
