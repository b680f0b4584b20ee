use Rattle.std.proofs.Common.{◌≡◌, ℕ, false, Option, refl, ap}
use Rattle.std.specs.Ordering.{nat_cmp}
use Rattle.std.specs.BTreeMap.{get}
use Rattle.page_spec.specs.Address.{TermOf}
use Rattle.happenings.specs.declared.event.WireEvent.TheVariants.{Opened, Lost, Change, Done}
use Rattle.hub.specs.Line.{Line}
use Rattle.serving_spec.specs.Made.{nothing}
use Rattle.serving_spec.specs.Shown.{shown_in}
use Rattle.hub.specs.Turns.{At, ats}
use Rattle.hub.proofs.TurnLemmas.{told_at}
use Rattle.hub.proofs.hub_step.Desk.take.Goals as goal

pub returns-in-Opened-clause-turned : goal.returns-in-Opened-clause-turned
returns-in-Opened-clause-turned g c =
    told_at (shown_in c.args.self.now.origin g.P.Versions.site g.P.Versions.templates (g.P.Versions.state c.args.self.now.pages)) (TermOf c.args.self.now.origin.root) c.args.self.now.requests c.args.self.now.greatest c.args.event.now (Opened c.in-Opened.number) nothing (ats (get nat_cmp c.args.self.now.connections) (g.W.Wire.told c.args.wire.now).account (g.W.Wire.told c.args.wire.now).faults)
    (ats (get nat_cmp c.begin.new.self.connections) (g.W.Wire.told c.begin.new.wire).account (g.W.Wire.told c.begin.new.wire).faults) c.args.self.now.replies c.begin.new.self.replies
    (g.P.Versions.looks (g.P.Versions.state c.args.self.now.pages)) (g.P.Versions.renews (g.P.Versions.state c.args.self.now.pages)) (g.P.Versions.cache c.args.self.now.pages) (g.P.Versions.cache c.begin.new.self.pages) (c.begin.new.self.spent ≡ false) c.in-Opened.is c.begin.ensures.turned c.begin.ensures.replies
    (λ alive. ap g.P.Versions.cache c.begin.ensures.pages)

pub returns-in-Lost-clause-turned : goal.returns-in-Lost-clause-turned
returns-in-Lost-clause-turned g c =
    let at : ℕ → Option Line → At = λ n l. record { line = l; account = (g.W.Wire.told c.args.wire.now).account n; faults = (g.W.Wire.told c.args.wire.now).faults n } in
    told_at (shown_in c.args.self.now.origin g.P.Versions.site g.P.Versions.templates (g.P.Versions.state c.args.self.now.pages)) (TermOf c.args.self.now.origin.root) c.args.self.now.requests c.args.self.now.greatest c.args.event.now (Lost c.in-Lost.number) nothing (ats (get nat_cmp c.args.self.now.connections) (g.W.Wire.told c.args.wire.now).account (g.W.Wire.told c.args.wire.now).faults)
    (ats (get nat_cmp c.forget.new.connections) (g.W.Wire.told c.args.wire.now).account (g.W.Wire.told c.args.wire.now).faults) c.args.self.now.replies c.args.self.now.replies
    (g.P.Versions.looks (g.P.Versions.state c.args.self.now.pages)) (g.P.Versions.renews (g.P.Versions.state c.args.self.now.pages)) (g.P.Versions.cache c.args.self.now.pages) (g.P.Versions.cache c.args.self.now.pages) (c.args.self.now.spent ≡ false) c.in-Lost.is
    (ap (at c.in-Lost.number) c.forget.ensures.gone, λ other apart. ap (at other) (c.forget.ensures.others other apart), refl) refl (λ alive. refl)

pub returns-in-Change-clause-turned : goal.returns-in-Change-clause-turned
returns-in-Change-clause-turned g c =
    told_at (shown_in c.args.self.now.origin g.P.Versions.site g.P.Versions.templates (g.P.Versions.state c.args.self.now.pages)) (TermOf c.args.self.now.origin.root) c.args.self.now.requests c.args.self.now.greatest c.args.event.now (Change c.in-Change.text) nothing (ats (get nat_cmp c.args.self.now.connections) (g.W.Wire.told c.args.wire.now).account (g.W.Wire.told c.args.wire.now).faults)
    (ats (get nat_cmp c.renew.new.self.connections) (g.W.Wire.told c.args.wire.now).account (g.W.Wire.told c.args.wire.now).faults) c.args.self.now.replies c.renew.new.self.replies
    (g.P.Versions.looks (g.P.Versions.state c.args.self.now.pages)) (g.P.Versions.renews (g.P.Versions.state c.args.self.now.pages)) (g.P.Versions.cache c.args.self.now.pages) (g.P.Versions.cache c.renew.new.self.pages) (c.renew.new.self.spent ≡ false) c.in-Change.is
    (λ number. rw c.renew.ensures.connections refl, refl) c.renew.ensures.counts.1 c.renew.ensures.renews

pub returns-in-Done-clause-turned : goal.returns-in-Done-clause-turned
returns-in-Done-clause-turned g c =
    told_at (shown_in c.args.self.now.origin g.P.Versions.site g.P.Versions.templates (g.P.Versions.state c.args.self.now.pages)) (TermOf c.args.self.now.origin.root) c.args.self.now.requests c.args.self.now.greatest c.args.event.now Done nothing (ats (get nat_cmp c.args.self.now.connections) (g.W.Wire.told c.args.wire.now).account (g.W.Wire.told c.args.wire.now).faults) (ats (get nat_cmp c.args.self.now.connections) (g.W.Wire.told c.args.wire.now).account (g.W.Wire.told c.args.wire.now).faults) c.args.self.now.replies c.args.self.now.replies
    (g.P.Versions.looks (g.P.Versions.state c.args.self.now.pages)) (g.P.Versions.renews (g.P.Versions.state c.args.self.now.pages)) (g.P.Versions.cache c.args.self.now.pages) (g.P.Versions.cache c.args.self.now.pages) (c.args.self.now.spent ≡ false) c.in-Done.is (λ number. refl, refl) refl (λ alive. refl)
