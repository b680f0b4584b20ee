use Rattle.std.proofs.Common.{◌≡◌, ◌↔◌, ◌∙◌, Bool, sym, subst}
use Rattle.std.specs.Prelude.{IsTrue}
use Rattle.sd_value.specs.declared.Term.{Term}
use Rattle.constraint_spec.specs.declared.Constraint.{Constraint}
use Rattle.constraint_spec.specs.declared.Constraint.TheVariants.{Reachable}
use Rattle.constraint_report.specs.Links.{AreReached, HasReached}
use Rattle.constraint_report.proofs.EachPage.{set_has}
use Rattle.constraint_report.proofs.pages.is_met_at.Goals as goal

pub returns-in-Reachable-clause-answer : goal.returns-in-Reachable-clause-answer
returns-in-Reachable-clause-answer g c =
    let site = g.V.SiteView.site (g.V.SiteView.fixed c.args.view.now) in
    let all : AreReached site c.in-Reachable.root c.args.reached.now.keys =
    subst (λ (x : Constraint). HasReached site x c.args.reached.now.keys) c.in-Reachable.is c.requires.reached in
    let here = set_has c.args.reached.now.keys c.args.page.now in
    rw c.in-Reachable.is (
      λ b. all.sound c.args.page.now (here.0 (sym c.contains.ensures ∙ b)),
      λ r. c.contains.ensures ∙ here.1 (all.complete c.args.page.now r),
    )

pub returns-in-Each-clause-answer : goal.returns-in-Each-clause-answer
returns-in-Each-clause-answer g c = rw c.in-Each.is c.links_to.ensures.answer

pub returns-in-Only-clause-answer : goal.returns-in-Only-clause-answer
returns-in-Only-clause-answer g c = rw c.in-Only.is c.links_only.ensures.answer

pub returns-in-Never-clause-answer : goal.returns-in-Never-clause-answer
returns-in-Never-clause-answer g c = rw c.in-Never.is c.links_never.ensures.answer

pub returns-in-One-clause-answer : goal.returns-in-One-clause-answer
returns-in-One-clause-answer g c = rw c.in-One.is c.links_once.ensures.answer
