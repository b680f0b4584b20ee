use Rattle.std.proofs.Common.{◌≡◌, ◌<◌, false, ℕ, refl, sym, ◌∙◌, subst, arith, List, Option, ◌++◌, ◌∷◌, [], length-append, length, inl, append-nil}
use Rattle.page_spec.specs.Address.{TermOf}
use Rattle.wire.specs.Events.{IsNextOf}
use Rattle.serving_spec.specs.declared.Origin.{Origin}
use Rattle.hub.specs.HubState.{scene, line_of}
use Rattle.hub.specs.Course.{rules_under}
use Rattle.serving_spec.specs.Inputs.{Moment, Unopened}
use Rattle.serving_spec.specs.Made.{nothing}
use Rattle.serving_spec.specs.Shown.{shown_in}
use Rattle.hub.specs.Turns.{ats, at_in}
use Rattle.happenings.specs.Happening.{Given}
use Rattle.happenings.specs.declared.event.WireEvent.{WireEvent}
use Rattle.hub.proofs.RunLemmas.{runs_start, runs_more, stands_more, stands_done, given_more, drawn_more, none_more, done_is, runs_moved, turned_at, passes_more, passes_moved, passes_done, counts_stay, one_turn, one_given, course_ends}
use Rattle.hub.proofs.serving.serve.Goals as goal

pub returns-then-is_done-clause-stands : goal.returns-then-is_done-clause-stands
returns-then-is_done-clause-stands g c =
    let page = shown_in c.args.hub.now.origin g.P.Versions.site g.P.Versions.templates in
    let e = c.in-Ok.event in
    let events = c.loop.invariant.6.0 in
    let trace = c.loop.invariant.6.1 in
    let start : Moment g.P.Versions.State = record { current = g.P.Versions.state c.args.hub.now.pages; greatest = c.args.hub.now.greatest; input = Unopened } in
    let done = done_is e (sym c.is_done.ensures ∙ c.if-is_done.true) in
    let counted : length events ≡ c.loop.counter = c.loop.invariant.6.4 in (
      events ++ e ∷ [],
      trace ++ Given e ∷ [],
      given_more (g.W.Wire.told c.args.wire.now).given (g.W.Wire.told c.loop.wire).given (g.W.Wire.told c.next.new.self).given events e c.loop.invariant.6.2 c.in-Ok.ensures.given,
      drawn_more (g.W.Wire.told c.args.wire.now).left (g.W.Wire.told c.loop.wire).left (g.W.Wire.told c.next.new.self).left events e c.loop.invariant.6.3 c.in-Ok.ensures.left,
      (events, subst (λ (x : WireEvent). events ++ e ∷ [] ≡ events ++ x ∷ []) done refl, omega (arith, counted, c.loop-test.true), c.loop.invariant.6.5),
      inl (passes_done (rules_under c.args.hub.now.origin g.P.Versions.site g.P.Versions.templates g.P.Versions.changed g.P.Versions.accepts g.P.Versions.looks g.P.Versions.renews g.P.Versions.found) c.args.hub.now.limit (scene g.P.Versions.state g.P.Versions.cache c.args.hub.now (g.W.Wire.told c.args.wire.now).account (g.W.Wire.told c.args.wire.now).faults)
          (scene g.P.Versions.state g.P.Versions.cache c.loop.hub (g.W.Wire.told c.next.new.self).account (g.W.Wire.told c.next.new.self).faults) events e trace done
          (passes_moved (rules_under c.args.hub.now.origin g.P.Versions.site g.P.Versions.templates g.P.Versions.changed g.P.Versions.accepts g.P.Versions.looks g.P.Versions.renews g.P.Versions.found) c.args.hub.now.limit (scene g.P.Versions.state g.P.Versions.cache c.args.hub.now (g.W.Wire.told c.args.wire.now).account (g.W.Wire.told c.args.wire.now).faults) events c.loop.hub g.P.Versions.state g.P.Versions.cache (g.W.Wire.told c.loop.wire).account (g.W.Wire.told c.next.new.self).account
          (g.W.Wire.told c.loop.wire).faults (g.W.Wire.told c.next.new.self).faults c.in-Ok.ensures.stays.0 c.in-Ok.ensures.stays.1 trace c.loop.invariant.6.6)),
      λ number none.
          stands_done page (TermOf c.args.hub.now.origin.root) g.P.Versions.changed c.args.hub.now.limit number start events e
          (at_in (line_of c.args.hub.now) (g.W.Wire.told c.args.wire.now).account (g.W.Wire.told c.args.wire.now).faults number) nothing
          (at_in (line_of c.loop.hub) (g.W.Wire.told c.next.new.self).account (g.W.Wire.told c.next.new.self).faults number)
          (g.P.Versions.state c.loop.hub.pages) c.loop.hub.greatest done
          (runs_moved page (TermOf c.args.hub.now.origin.root) g.P.Versions.changed c.args.hub.now.limit number start events
          (at_in (line_of c.args.hub.now) (g.W.Wire.told c.args.wire.now).account (g.W.Wire.told c.args.wire.now).faults number)
          (line_of c.loop.hub) (g.W.Wire.told c.loop.wire).account (g.W.Wire.told c.next.new.self).account
          (g.W.Wire.told c.loop.wire).faults (g.W.Wire.told c.next.new.self).faults (g.P.Versions.state c.loop.hub.pages) c.loop.hub.greatest
          c.in-Ok.ensures.stays.0 c.in-Ok.ensures.stays.1 (c.loop.invariant.6.7 number none)),
      (
        [],
        refl,
        course_ends (g.W.Wire.trace c.args.wire.now) (g.W.Wire.trace c.next.new.self) (trace ++ Given e ∷ [])
            (one_given (g.W.Wire.trace c.args.wire.now) (g.W.Wire.trace c.loop.wire) (g.W.Wire.trace c.next.new.self) trace (Given e) c.loop.invariant.6.8 c.in-Ok.ensures.traced),
      ),
    )

pub returns-then-spent-clause-stands : goal.returns-then-spent-clause-stands
returns-then-spent-clause-stands g c =
    let some : 0 < c.args.hub.now.limit = subst (λ (n : ℕ). 0 < n) c.loop.invariant.0 c.step.ensures.some in
    let page = shown_in c.args.hub.now.origin g.P.Versions.site g.P.Versions.templates in
    let e = c.in-Ok.event in
    let events = c.loop.invariant.6.0 in
    let trace = c.loop.invariant.6.1 in
    let noted = c.step.ensures.noted in
    let start : Moment g.P.Versions.State = record { current = g.P.Versions.state c.args.hub.now.pages; greatest = c.args.hub.now.greatest; input = Unopened } in
    let told = c.step.ensures.turned c.loop.invariant.2 in
    let turned = turned_at (λ r. shown_in r g.P.Versions.site g.P.Versions.templates) (λ (o : Origin). TermOf o.root) (g.P.Versions.state c.loop.hub.pages) c.loop.hub.origin c.args.hub.now.origin c.loop.hub.limit c.args.hub.now.limit c.loop.hub.greatest e told.0
    (ats (line_of c.loop.hub) (g.W.Wire.told c.next.new.self).account (g.W.Wire.told c.next.new.self).faults)
    (ats (line_of c.step.new.self) (g.W.Wire.told c.step.new.wire).account (g.W.Wire.told c.step.new.wire).faults)
    c.loop.invariant.1 c.loop.invariant.0 told.1 in
    let spends = c.step.ensures.spends c.loop.invariant.2 (sym c.spent.ensures ∙ c.if-spent.true) in
    let counted : length events ≡ c.loop.counter = c.loop.invariant.6.4 in
    let next : IsNextOf (g.W.Wire.told c.loop.wire).left e (g.W.Wire.told c.step.new.wire).left =
    subst (λ (o : Option (List WireEvent)). IsNextOf (g.W.Wire.told c.loop.wire).left e o) (sym c.step.ensures.stays.1) c.in-Ok.ensures.left in (
      events ++ e ∷ [],
      trace ++ Given e ∷ noted.part,
      given_more (g.W.Wire.told c.args.wire.now).given (g.W.Wire.told c.loop.wire).given (g.W.Wire.told c.step.new.wire).given events e c.loop.invariant.6.2
          (c.step.ensures.stays.0 ∙ c.in-Ok.ensures.given),
      drawn_more (g.W.Wire.told c.args.wire.now).left (g.W.Wire.told c.loop.wire).left (g.W.Wire.told c.step.new.wire).left events e c.loop.invariant.6.3 next,
      (omega (arith, counted, c.loop-test.true, length-append events (e ∷ [])), none_more events e c.loop.invariant.6.5 (sym c.is_done.ensures ∙ c.if-is_done.false)),
      counts_stay (rules_under c.args.hub.now.origin g.P.Versions.site g.P.Versions.templates g.P.Versions.changed g.P.Versions.accepts g.P.Versions.looks g.P.Versions.renews g.P.Versions.found) c.args.hub.now.limit (scene g.P.Versions.state g.P.Versions.cache c.args.hub.now (g.W.Wire.told c.args.wire.now).account (g.W.Wire.told c.args.wire.now).faults)
          (scene g.P.Versions.state g.P.Versions.cache c.loop.hub (g.W.Wire.told c.next.new.self).account (g.W.Wire.told c.next.new.self).faults)
          (scene g.P.Versions.state g.P.Versions.cache c.step.new.self (g.W.Wire.told c.step.new.wire).account (g.W.Wire.told c.step.new.wire).faults) events e spends.0.0 told.0 trace spends.0.1
          (passes_moved (rules_under c.args.hub.now.origin g.P.Versions.site g.P.Versions.templates g.P.Versions.changed g.P.Versions.accepts g.P.Versions.looks g.P.Versions.renews g.P.Versions.found) c.args.hub.now.limit (scene g.P.Versions.state g.P.Versions.cache c.args.hub.now (g.W.Wire.told c.args.wire.now).account (g.W.Wire.told c.args.wire.now).faults) events c.loop.hub g.P.Versions.state g.P.Versions.cache (g.W.Wire.told c.loop.wire).account (g.W.Wire.told c.next.new.self).account
          (g.W.Wire.told c.loop.wire).faults (g.W.Wire.told c.next.new.self).faults c.in-Ok.ensures.stays.0 c.in-Ok.ensures.stays.1 trace c.loop.invariant.6.6)
          turned (c.step.ensures.opened c.loop.invariant.2) told.2 spends.1 spends.2 spends.3 noted.part noted.told,
      λ number none.
          stands_more page (TermOf c.args.hub.now.origin.root) g.P.Versions.changed c.args.hub.now.limit number start events e
          (at_in (line_of c.args.hub.now) (g.W.Wire.told c.args.wire.now).account (g.W.Wire.told c.args.wire.now).faults number) told.0
          (ats (line_of c.loop.hub) (g.W.Wire.told c.next.new.self).account (g.W.Wire.told c.next.new.self).faults)
          (ats (line_of c.step.new.self) (g.W.Wire.told c.step.new.wire).account (g.W.Wire.told c.step.new.wire).faults)
          (g.P.Versions.state c.loop.hub.pages) c.loop.hub.greatest some
          (runs_moved page (TermOf c.args.hub.now.origin.root) g.P.Versions.changed c.args.hub.now.limit number start events
          (at_in (line_of c.args.hub.now) (g.W.Wire.told c.args.wire.now).account (g.W.Wire.told c.args.wire.now).faults number)
          (line_of c.loop.hub) (g.W.Wire.told c.loop.wire).account (g.W.Wire.told c.next.new.self).account
          (g.W.Wire.told c.loop.wire).faults (g.W.Wire.told c.next.new.self).faults (g.P.Versions.state c.loop.hub.pages) c.loop.hub.greatest
          c.in-Ok.ensures.stays.0 c.in-Ok.ensures.stays.1 (c.loop.invariant.6.7 number none))
          turned,
      (
        [],
        inl refl,
        course_ends (g.W.Wire.trace c.args.wire.now) (g.W.Wire.trace c.step.new.wire) (trace ++ Given e ∷ noted.part)
            (one_turn (g.W.Wire.trace c.args.wire.now) (g.W.Wire.trace c.loop.wire) (g.W.Wire.trace c.next.new.self) (g.W.Wire.trace c.step.new.wire) trace noted.part (Given e)
            c.loop.invariant.6.8 c.in-Ok.ensures.traced noted.added),
      ),
    )

pub loop-init : goal.loop-init
loop-init g c = (
  refl,
  refl,
  c.requires.alive,
  c.requires.own,
  refl,
  refl,
  (
    [],
    [],
    refl,
    refl,
    refl,
    refl,
    (refl, refl),
    λ number none.
        runs_start (shown_in c.args.hub.now.origin g.P.Versions.site g.P.Versions.templates) (TermOf c.args.hub.now.origin.root) g.P.Versions.changed c.args.hub.now.limit number
        (at_in (line_of c.args.hub.now) (g.W.Wire.told c.args.wire.now).account (g.W.Wire.told c.args.wire.now).faults number)
        (g.P.Versions.state c.args.hub.now.pages) c.args.hub.now.greatest none,
    sym (append-nil (g.W.Wire.trace c.args.wire.now)),
  ),
  refl,
)

pub loop-preserved : goal.loop-preserved
loop-preserved g c =
    let alive : c.step.new.self.spent ≡ false = sym c.spent.ensures ∙ c.if-spent.false in
    let some : 0 < c.args.hub.now.limit = subst (λ (n : ℕ). 0 < n) c.loop.invariant.0 c.step.ensures.some in
    let page = shown_in c.args.hub.now.origin g.P.Versions.site g.P.Versions.templates in
    let e = c.in-Ok.event in
    let events = c.loop.invariant.6.0 in
    let trace = c.loop.invariant.6.1 in
    let noted = c.step.ensures.noted in
    let start : Moment g.P.Versions.State = record { current = g.P.Versions.state c.args.hub.now.pages; greatest = c.args.hub.now.greatest; input = Unopened } in
    let told = c.step.ensures.turned c.loop.invariant.2 in
    let turned = turned_at (λ r. shown_in r g.P.Versions.site g.P.Versions.templates) (λ (o : Origin). TermOf o.root) (g.P.Versions.state c.loop.hub.pages) c.loop.hub.origin c.args.hub.now.origin c.loop.hub.limit c.args.hub.now.limit c.loop.hub.greatest e told.0
    (ats (line_of c.loop.hub) (g.W.Wire.told c.next.new.self).account (g.W.Wire.told c.next.new.self).faults)
    (ats (line_of c.step.new.self) (g.W.Wire.told c.step.new.wire).account (g.W.Wire.told c.step.new.wire).faults)
    c.loop.invariant.1 c.loop.invariant.0 told.1 in
    let counted : length events ≡ c.loop.counter = c.loop.invariant.6.4 in
    let next : IsNextOf (g.W.Wire.told c.loop.wire).left e (g.W.Wire.told c.step.new.wire).left =
    subst (λ (o : Option (List WireEvent)). IsNextOf (g.W.Wire.told c.loop.wire).left e o) (sym c.step.ensures.stays.1) c.in-Ok.ensures.left in (
      c.step.ensures.limit ∙ c.loop.invariant.0,
      c.step.ensures.origin ∙ c.loop.invariant.1,
      alive,
      c.step.ensures.own,
      c.step.ensures.stays.3 ∙ c.in-Ok.ensures.fine ∙ c.loop.invariant.4,
      c.step.ensures.stays.2 ∙ c.in-Ok.ensures.stays.2 ∙ c.loop.invariant.5,
      (
        events ++ e ∷ [],
        trace ++ Given e ∷ noted.part,
        given_more (g.W.Wire.told c.args.wire.now).given (g.W.Wire.told c.loop.wire).given (g.W.Wire.told c.step.new.wire).given events e c.loop.invariant.6.2
            (c.step.ensures.stays.0 ∙ c.in-Ok.ensures.given),
        drawn_more (g.W.Wire.told c.args.wire.now).left (g.W.Wire.told c.loop.wire).left (g.W.Wire.told c.step.new.wire).left events e c.loop.invariant.6.3 next,
        omega (arith, counted, length-append events (e ∷ [])),
        none_more events e c.loop.invariant.6.5 (sym c.is_done.ensures ∙ c.if-is_done.false),
        passes_more (rules_under c.args.hub.now.origin g.P.Versions.site g.P.Versions.templates g.P.Versions.changed g.P.Versions.accepts g.P.Versions.looks g.P.Versions.renews g.P.Versions.found) c.args.hub.now.limit (scene g.P.Versions.state g.P.Versions.cache c.args.hub.now (g.W.Wire.told c.args.wire.now).account (g.W.Wire.told c.args.wire.now).faults)
            (scene g.P.Versions.state g.P.Versions.cache c.loop.hub (g.W.Wire.told c.next.new.self).account (g.W.Wire.told c.next.new.self).faults)
            (scene g.P.Versions.state g.P.Versions.cache c.step.new.self (g.W.Wire.told c.step.new.wire).account (g.W.Wire.told c.step.new.wire).faults) events e trace
            (passes_moved (rules_under c.args.hub.now.origin g.P.Versions.site g.P.Versions.templates g.P.Versions.changed g.P.Versions.accepts g.P.Versions.looks g.P.Versions.renews g.P.Versions.found) c.args.hub.now.limit (scene g.P.Versions.state g.P.Versions.cache c.args.hub.now (g.W.Wire.told c.args.wire.now).account (g.W.Wire.told c.args.wire.now).faults) events c.loop.hub g.P.Versions.state g.P.Versions.cache (g.W.Wire.told c.loop.wire).account (g.W.Wire.told c.next.new.self).account
            (g.W.Wire.told c.loop.wire).faults (g.W.Wire.told c.next.new.self).faults c.in-Ok.ensures.stays.0 c.in-Ok.ensures.stays.1 trace c.loop.invariant.6.6)
            (record {
              made = told.0;
              turned = turned;
              current = c.step.ensures.state c.loop.invariant.2 alive;
              greatest = c.step.ensures.greatest c.loop.invariant.2;
              opened = c.step.ensures.opened c.loop.invariant.2;
              replies = told.2;
              changes = c.step.ensures.changes c.loop.invariant.2 alive;
              refused = c.step.ensures.refused c.loop.invariant.2 alive;
              cache = told.3 alive;
              part = noted.part;
              told = noted.told;
            }),
        λ number none.
            runs_more page (TermOf c.args.hub.now.origin.root) g.P.Versions.changed c.args.hub.now.limit number start events e
            (at_in (line_of c.args.hub.now) (g.W.Wire.told c.args.wire.now).account (g.W.Wire.told c.args.wire.now).faults number) told.0
            (ats (line_of c.loop.hub) (g.W.Wire.told c.next.new.self).account (g.W.Wire.told c.next.new.self).faults)
            (ats (line_of c.step.new.self) (g.W.Wire.told c.step.new.wire).account (g.W.Wire.told c.step.new.wire).faults)
            (g.P.Versions.state c.loop.hub.pages) (g.P.Versions.state c.step.new.self.pages) c.loop.hub.greatest c.step.new.self.greatest some
            (runs_moved page (TermOf c.args.hub.now.origin.root) g.P.Versions.changed c.args.hub.now.limit number start events
            (at_in (line_of c.args.hub.now) (g.W.Wire.told c.args.wire.now).account (g.W.Wire.told c.args.wire.now).faults number)
            (line_of c.loop.hub) (g.W.Wire.told c.loop.wire).account (g.W.Wire.told c.next.new.self).account
            (g.W.Wire.told c.loop.wire).faults (g.W.Wire.told c.next.new.self).faults (g.P.Versions.state c.loop.hub.pages) c.loop.hub.greatest
            c.in-Ok.ensures.stays.0 c.in-Ok.ensures.stays.1 (c.loop.invariant.6.7 number none))
            turned
            (c.step.ensures.state c.loop.invariant.2 alive) (c.step.ensures.greatest c.loop.invariant.2),
        one_turn (g.W.Wire.trace c.args.wire.now) (g.W.Wire.trace c.loop.wire) (g.W.Wire.trace c.next.new.self) (g.W.Wire.trace c.step.new.wire) trace noted.part (Given e)
            c.loop.invariant.6.8 c.in-Ok.ensures.traced noted.added,
      ),
      c.step.ensures.stays.4 ∙ c.in-Ok.ensures.stays.3 ∙ c.loop.invariant.7,
    )
