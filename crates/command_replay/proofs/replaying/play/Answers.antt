use Rattle.std.proofs.Common.{List, take, ap, ◌∙◌}
use Rattle.std.specs.List.{list_any}
use Rattle.happenings.specs.declared.event.WireEvent.{WireEvent}
use Rattle.mem_wire.specs.WireInMemory.{WireInMemory}
use Rattle.serving_spec.specs.Openings.{opened_in}
use Rattle.command_replay.specs.Ends.{is_change}
use Rattle.command_replay.specs.Scripts.{scripted_of}
use Rattle.command_replay.proofs.Plays.{is_fresh, is_replayed}
use Rattle.command_replay.proofs.replaying.play.Goals as goal

pub returns : goal.returns
returns c =
    let served = c.serve_site-served.result in
    is_replayed (scripted_of c.args.script) c.args.limits.now c.in_ok-wire.wire c.serve_site-served.new.wire served.end served.tally c.in_ok-text.text.items c.deref-3.result.now c.have_change-with_changes.result
    (is_fresh c.args.script.events.items c.in_ok-wire.wire (ap (λ (w : WireInMemory). w.events) c.in_ok-wire.ensures.told) (ap (λ (w : WireInMemory). w.count) c.in_ok-wire.ensures.told) c.in_ok-wire.ensures.entries c.in_ok-wire.ensures.opened)
    c.serve_site-served.ensures.serves
    c.serve_site-served.ensures.failed
    (c.deref-3.ensures.value ∙ c.in_ok-opened.ensures ∙ ap opened_in (c.first_events.ensures ∙ ap (λ (es : List WireEvent). take c.args.limits.now.turns es) c.deref.ensures.value))
    c.in_ok-text.ensures.whole
    (c.have_change-with_changes.ensures ∙ ap (list_any is_change) c.deref-2.ensures.value)
    c.in_ok-text.ensures.text
