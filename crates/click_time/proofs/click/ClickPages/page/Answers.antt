use Rattle.std.proofs.Common.{◌≤◌, ◌+◌, ℕ, List, sym, subst, ap}
use Rattle.tmpl.specs.Reading.{file_of}
use Rattle.page_spec.specs.Question.{Question}
use Rattle.query_blocks.specs.Blocks.{scope_of}
use Rattle.weight_spec.specs.Site.{site_of}
use Rattle.demand_spec.specs.Reads.{MayAsk, KeepsOnly}
use Rattle.click_time.specs.Fixed.{Fixed, Keeps, Account, questions}
use Rattle.click_time.proofs.Account.{account_weight}
use Rattle.click_time.proofs.Views.{keeps_nothing, asked_nothing}
use Rattle.click_time.proofs.click.ClickPages.page.Goals as goal

pub render-outcome-requires-clause-own : goal.render-outcome-requires-clause-own
render-outcome-requires-clause-own g c =
    let m = c.new.result in (
      c.requires.own.0,
      c.requires.own.1,
      subst (λ s. Keeps (g.A.Asker.graph c.args.self.now.asker) (scope_of c.args.self.now.scopes.now) (file_of c.args.self.now.templates.now) m.terms.told.entries m.ends.told.entries m.gathered.told.entries m.templates.told.entries s (g.A.Asker.count c.args.self.now.asker)) (sym c.given-self.ensures.count)
          (keeps_nothing (g.A.Asker.graph c.args.self.now.asker) (scope_of c.args.self.now.scopes.now) (file_of c.args.self.now.templates.now) m.terms.told.entries m.ends.told.entries m.gathered.told.entries m.templates.told.entries (g.A.Asker.count c.args.self.now.asker) (sym c.new.ensures.terms) (sym c.new.ensures.ends) (sym c.new.ensures.gathered) (sym c.new.ensures.templates)),
    )

pub returns-clause-own : goal.returns-clause-own
returns-clause-own g c =
    let own = c.render-outcome.ensures.own in
    let m = c.new-2.result in
    (own.0, own.1, asked_nothing m.terms.told.entries m.ends.told.entries m.gathered.told.entries m.templates.told.entries (sym c.new-2.ensures.terms) (sym c.new-2.ensures.ends) (sym c.new-2.ensures.gathered) (sym c.new-2.ensures.templates))

pub returns-clause-fixed : goal.returns-clause-fixed
returns-clause-fixed g c = ap (λ (f : Fixed). record { graph = f.graph; scope = f.scope; templates = f.templates }) c.render-outcome.ensures.fixed

pub returns-clause-weight : goal.returns-clause-weight
returns-clause-weight g c =
    let v = c.render-outcome.new.view in
    let own = c.render-outcome.ensures.own in
    let m = c.new.result in
    let account = subst (λ (f : Fixed). Account f.graph f.scope f.templates (questions v.memo) f.start (g.A.Asker.count v.asker)) c.render-outcome.ensures.fixed own.2.account in
    let none = asked_nothing m.terms.told.entries m.ends.told.entries m.gathered.told.entries m.templates.told.entries (sym c.new.ensures.terms) (sym c.new.ensures.ends) (sym c.new.ensures.gathered) (sym c.new.ensures.templates) in
    let G = g.A.Asker.graph c.args.self.now.asker in
    let q = scope_of c.args.self.now.scopes.now in
    let f = file_of c.args.self.now.templates.now in
    let kept = subst (λ (l : List Question). KeepsOnly (MayAsk (site_of G q) f c.args.term.now) l (questions v.memo)) none c.render-outcome.ensures.kept in
    let w = account_weight G q f c.args.term.now (questions v.memo) c.given-self.result (g.A.Asker.count v.asker) account kept in
    (w.0, w.1, subst (λ (s : ℕ). g.A.Asker.count v.asker ≤ s + w.0) c.given-self.ensures.count w.2)
