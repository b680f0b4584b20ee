use Rattle.std.proofs.Common.{◌≡◌, ◌↔◌, ◌∙◌, Bool, true, refl, sym, subst}
use Rattle.std.specs.Prelude.{IsTrue}
use Rattle.std.specs.Ordering.{is_eq}
use Rattle.std.proofs.lemmas.Bool.{false≢true}
use Rattle.std.proofs.lemmas.Result.{IfOk-weaker}
use Rattle.sd_value.specs.Names.{Name}
use Rattle.sd_value.specs.Order.{bytes_cmp}
use Rattle.sd_value.specs.OrderLaws.{same_bytes, bytes_same}
use Rattle.constraint_report.specs.Links.{function_of, IsMetAt, Agrees}
use Rattle.constraint_report.proofs.pages.agrees.Goals as goal

pub returns-then-eq-clause-answer : goal.returns-then-eq-clause-answer
returns-then-eq-clause-answer g c =
    let site = g.V.SiteView.site (g.V.SiteView.fixed c.args.view.now) in
    let same : c.args.page.now.function ≡ function_of c.args.constraint.now = same_bytes c.args.page.now.function c.function.result.now (sym c.eq.ensures ∙ c.if-eq.true) ∙ c.function.ensures in
    IfOk-weaker c.is_met_at.result (λ (r : Bool). IsTrue r ↔ IsMetAt site c.args.constraint.now c.args.page.now) (λ (r : Bool). IsTrue r ↔ Agrees site c.args.constraint.now c.args.page.now)
    (λ r is. (λ b fn. is.0 b, λ h. is.1 (h same)))
    c.is_met_at.ensures.answer

pub returns-else-eq-clause-answer : goal.returns-else-eq-clause-answer
returns-else-eq-clause-answer g c = (
  λ b fn.
      let same : c.args.page.now.function ≡ c.function.result.now = fn ∙ sym c.function.ensures in
      let on : c.eq.result ≡ true = c.eq.ensures ∙ subst (λ (f : Name). is_eq (bytes_cmp c.args.page.now.function f) ≡ true) same (bytes_same c.args.page.now.function) in
      absurd (false≢true (sym c.if-eq.false ∙ on)),
  λ h. refl,
)
