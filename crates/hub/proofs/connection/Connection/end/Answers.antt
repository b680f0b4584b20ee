use Rattle.std.proofs.Common.{◌≡◌, ℕ, List, refl, ap, subst}
use Rattle.page_spec.specs.Address.{TermOf}
use Rattle.http_reply.specs.Feeding.{Held, EndsWith}
use Rattle.hub.specs.Line.{Line}
use Rattle.serving_spec.specs.Made.{nothing}
use Rattle.serving_spec.specs.Shown.{shown_in}
use Rattle.hub.proofs.StepLemmas.{no_head_asked}
use Rattle.hub.proofs.ServeLemmas.{finish_clean, finish_asked}
use Rattle.hub.proofs.connection.Connection.end.Goals as goal

pub invariant_of-self : goal.invariant_of-self
invariant_of-self g c =
    let empty = no_head_asked c.end.new.self (ap (λ (h : Held). h.rest) c.end.ensures.held) in
    (empty.0, empty.1, c.self.invariant.2)

pub invariant_of-self-2 : goal.invariant_of-self-2
invariant_of-self-2 g c =
    let empty = no_head_asked c.end.new.self (ap (λ (h : Held). h.rest) c.end.ensures.held) in
    (empty.0, empty.1, c.self.invariant.2)

pub returns-in_default-clause-finished : goal.returns-in_default-clause-finished
returns-in_default-clause-finished g c =
    let rest_is : c.self.inside.reading.rest ≡ c.args.self.now.rest = ap (λ (l : Line). l.rest) c.self.view_is in
    let ends : EndsWith c.args.self.now.rest c.end.result = subst (λ (r : List ℕ). EndsWith r c.end.result) rest_is c.end.ensures.ask in
    (nothing, finish_clean c.args.self.now.rest c.end.result _ _ c.in_default.is ends, refl, refl)

pub returns-clause-finished : goal.returns-clause-finished
returns-clause-finished g c =
    let rest_is : c.self.inside.reading.rest ≡ c.args.self.now.rest = ap (λ (l : Line). l.rest) c.self.view_is in
    let ends : EndsWith c.args.self.now.rest c.end.result = subst (λ (r : List ℕ). EndsWith r c.end.result) rest_is c.end.ensures.ask in
    let sent = c.answer.ensures.sent in (
      sent.0,
      finish_asked (shown_in c.args.origin.now g.P.Versions.site g.P.Versions.templates (g.P.Versions.state c.args.pages.now)) (TermOf c.args.origin.now.root) c.args.self.now.rest _ c.end.result c.in-Some.ask sent.0
          c.answer.result _ _ _ _ c.in-Some.is ends sent.1,
      sent.2,
      sent.3,
    )
