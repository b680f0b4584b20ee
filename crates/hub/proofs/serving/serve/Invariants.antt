use Rattle.std.proofs.Common.{◌≡◌, ◌++◌, ℕ, List, None, false, length}
use Rattle.std.specs.List.{fold, list_any}
use Rattle.page_spec.specs.Address.{TermOf}
use Rattle.wire.specs.Events.{add_event, is_done, IsDrawn}
use Rattle.happenings.specs.Happening.{Happening}
use Rattle.happenings.specs.declared.event.WireEvent.{WireEvent}
use Rattle.serving_spec.specs.Inputs.{Unopened}
use Rattle.hub.specs.HubState.{line_of, scene}
use Rattle.hub.specs.Course.{rules_under, PassesAll}
use Rattle.serving_spec.specs.Shown.{shown_in}
use Rattle.hub.specs.Turns.{at_in}
use Rattle.hub.proofs.RunLemmas.{Runs}
use Rattle.hub.proofs.serving.serve.Given as goal

abbrev pub invariant-loop : goal.invariant-loop
invariant-loop g l =
    (l.hub.limit ≡ l.fn.hub.limit)
    × (l.hub.origin ≡ l.fn.hub.origin)
    × (l.hub.spent ≡ false)
    × g.P.Versions.Own l.hub.pages
    × ((g.W.Wire.told l.wire).next_faults ≡ (g.W.Wire.told l.fn.wire).next_faults)
    × ((g.W.Wire.told l.wire).listens ≡ (g.W.Wire.told l.fn.wire).listens)
    × ((events : List WireEvent)
    × (trace : List Happening)
    × ((g.W.Wire.told l.wire).given ≡ fold add_event (g.W.Wire.told l.fn.wire).given events)
    × IsDrawn (g.W.Wire.told l.fn.wire).left events (g.W.Wire.told l.wire).left
    × (length events ≡ l.counter)
    × (list_any is_done events ≡ false)
    × PassesAll (rules_under l.fn.hub.origin g.P.Versions.site g.P.Versions.templates g.P.Versions.changed g.P.Versions.accepts g.P.Versions.looks g.P.Versions.renews g.P.Versions.found) l.fn.hub.limit
    (scene g.P.Versions.state g.P.Versions.cache l.fn.hub (g.W.Wire.told l.fn.wire).account (g.W.Wire.told l.fn.wire).faults) events
    (scene g.P.Versions.state g.P.Versions.cache l.hub (g.W.Wire.told l.wire).account (g.W.Wire.told l.wire).faults) trace
    × ((number : ℕ) → (line_of l.fn.hub) number ≡ None
    → Runs (shown_in l.fn.hub.origin g.P.Versions.site g.P.Versions.templates) (TermOf l.fn.hub.origin.root) g.P.Versions.changed l.fn.hub.limit number
    (record { current = g.P.Versions.state l.fn.hub.pages; greatest = l.fn.hub.greatest; input = Unopened }) events
    (at_in (line_of l.fn.hub) (g.W.Wire.told l.fn.wire).account (g.W.Wire.told l.fn.wire).faults number)
    (at_in (line_of l.hub) (g.W.Wire.told l.wire).account (g.W.Wire.told l.wire).faults number)
    (g.P.Versions.state l.hub.pages) l.hub.greatest)
    × (g.W.Wire.trace l.wire ≡ g.W.Wire.trace l.fn.wire ++ trace))
    × ((g.W.Wire.told l.wire).watches ≡ (g.W.Wire.told l.fn.wire).watches)
