use Rattle.std.proofs.Common.{List, ◌∙◌, ap, sym, subst}
use Rattle.std.proofs.lemmas.Result.{IfOk-weaker}
use Rattle.sd_value.specs.declared.Term.{Term}
use Rattle.sd_value.specs.Names.{Label}
use Rattle.graph_spec.specs.DataGraph.{DataGraph}
use Rattle.site_spec.specs.Site.{Scope}
use Rattle.query_blocks.specs.Blocks.{scope_of}
use Rattle.weight_spec.specs.Site.{site_of}
use Rattle.constraint_spec.specs.Meets.{Meets}
use Rattle.constraint_report.specs.Here.{HoldsIn, IsListed}
use Rattle.constraint_report.proofs.Alike.{holds_alike}
use Rattle.constraint_report.specs.Report.{IsReport}
use Rattle.constraint_report.proofs.Listed.{listed_whole}
use Rattle.constraint_report.proofs.Reports.{report_as}
use Rattle.constraint_report.proofs.report.report_of.Goals as goal

pub told-requires-clause-listed : goal.told-requires-clause-listed
told-requires-clause-listed g c =
    let w = c.in_ok-whole.whole in
    let G = g.A.Asker.graph w.asker in
    subst (λ (ts : List Term). IsListed (site_of G (scope_of w.scopes.now)) ts c.as_slice-labels.result.now) (sym c.as_slice-terms.ensures.value)
    (subst (λ (ls : List Label). IsListed (site_of G (scope_of w.scopes.now)) c.in_ok-all_terms.all_terms.items ls) (sym c.as_slice-labels.ensures.value)
    (listed_whole G w.scopes.now w.contents c.in_ok-whole.ensures.whole c.in_ok-all_terms.all_terms.items c.in_ok-all_labels.all_labels.items c.in_ok-all_terms.ensures c.in_ok-all_labels.ensures))

pub returns : goal.returns
returns g c =
    let w = c.in_ok-whole.whole in
    let G = g.A.Asker.graph c.args.asker in
    let q = scope_of c.args.scopes.now in
    IfOk-weaker c.told.result (λ r. IsReport (HoldsIn (site_of (g.A.Asker.graph w.asker) (scope_of w.scopes.now))) c.args.constraints.now r.text r.passed) (λ r. IsReport (Meets G q) c.args.constraints.now r.text r.passed)
    (λ r told.
    subst (λ (x : DataGraph). IsReport (Meets x q) c.args.constraints.now r.text r.passed) c.in_ok-whole.ensures.graph
    (subst (λ (s : Scope). IsReport (Meets (g.A.Asker.graph w.asker) s) c.args.constraints.now r.text r.passed) (ap scope_of c.in_ok-whole.ensures.scopes)
    (report_as (HoldsIn (site_of (g.A.Asker.graph w.asker) (scope_of w.scopes.now))) (Meets (g.A.Asker.graph w.asker) (scope_of w.scopes.now)) c.args.constraints.now r.text r.passed
    (holds_alike (g.A.Asker.graph w.asker) (scope_of w.scopes.now)) told)))
    c.told.ensures
