use Rattle.std.proofs.Common.{◌∙◌, subst}
use Rattle.graph_spec.specs.DataGraph.{DataGraph}
use Rattle.site_spec.specs.Site.{Scope, scope_of as scope_of_query}
use Rattle.query_blocks.specs.Blocks.{scope_of}
use Rattle.constraint_spec.specs.Meets.{Meets}
use Rattle.constraint_report.specs.Report.{IsReport}
use Rattle.command_check.proofs.Alone.{alone}
use Rattle.command_check.proofs.site_oracle.SiteOracleOracle.met.Goals as goal

pub returns-clause-met : goal.returns-clause-met
returns-clause-met c =
    let r = c.in_ok-report.report in
    let told = c.from_ref.result.now in
    alone (Meets c.args.graph (scope_of_query c.args.self.now.query.now)) c.args.constraint.now told r.text r.passed c.from_ref.ensures.value
    (subst (λ (s : Scope). IsReport (Meets c.args.graph s) told r.text r.passed) c.blocks-2.ensures.scope
    (subst (λ (x : DataGraph). IsReport (Meets x (scope_of c.blocks-2.result.now)) told r.text r.passed) (c.of-asker.ensures.store ∙ c.in_ok-store.ensures) c.in_ok-report.ensures))
