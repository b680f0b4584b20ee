use Rattle.std.proofs.Common.{subst}
use Rattle.std.specs.Prelude.{Option, IfSome}
use Rattle.std.proofs.lemmas.Result.{IfOk-weaker}
use Rattle.sd_value.specs.Names.{Name}
use Rattle.constraint_report.specs.Links.{AreReached, HasReached}
use Rattle.constraint_report.proofs.here.reached_for.Goals as goal

pub returns-in-Some-clause-reached : goal.returns-in-Some-clause-reached
returns-in-Some-clause-reached g c =
    let site = g.V.SiteView.site (g.V.SiteView.fixed c.args.view.now) in
    IfOk-weaker c.reached.result (λ found. AreReached site c.in-Some.root.now found.keys) (λ found. HasReached site c.args.constraint.now found.keys)
    (λ found all. subst (λ (o : Option Name). IfSome o (λ root. AreReached site root found.keys)) c.in-Some.ensures all)
    c.reached.ensures.reached

pub returns-in-None-clause-reached : goal.returns-in-None-clause-reached
returns-in-None-clause-reached g c =
    let site = g.V.SiteView.site (g.V.SiteView.fixed c.args.view.now) in
    subst (λ (o : Option Name). IfSome o (λ root. AreReached site root c.new.result.keys)) c.in-None.ensures tt
