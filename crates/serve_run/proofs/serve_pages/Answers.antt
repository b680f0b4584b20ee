use Rattle.std.proofs.Common.{ap, ◌∙◌}
use Rattle.page_cache.specs.Entries.{pages_of}
use Rattle.serving_spec.specs.Changes.{Changes}
use Rattle.serve_run.proofs.ServingLemmas.{serves, happens_in_steps, serves_nothing, no_steps_happen, new_kept, whole_run}
use Rattle.serve_run.proofs.serve_pages.Goals as goal

pub returns-in-Ok-clause-serves : goal.returns-in-Ok-clause-serves
returns-in-Ok-clause-serves g c =
    let run = c.serve-end.ensures.stands in
    let hub = c.in-Ok.hub in
    let new = c.in-Ok.ensures.new in
    let kept = c.in-Ok.ensures.kept in
    let texts : Changes g.P.Versions.State = record { changed = g.P.Versions.changed; accepts = g.P.Versions.accepts; stays = g.P.Versions.stays } in
    serves hub c.serve-end.new.hub c.args.origin g.P.Versions.site g.P.Versions.templates texts (g.P.Versions.state c.args.pages) c.args.requests c.args.turns c.args.room
    (λ p. g.P.Versions.state p.pages) (λ p. record { room = record { pages = p.kept.cap; bytes = p.most }; pages = pages_of p.kept.entries; hits = p.hits })
    (g.W.Wire.told c.args.wire.now)
    (g.W.Wire.told c.serve-end.new.wire)
    c.serve-end.result c.tally.result run.0 c.requires.requests run.2 run.3 run.4 run.1 run.5 run.6 c.in-Ok.ensures.none new.0 new.1 (ap g.P.Versions.state c.in-Ok.ensures.pages) new.2 new.3 new.4 new.5 new.6
    (new_kept hub.pages.kept.cap hub.pages.most c.args.room hub.pages.hits (pages_of hub.pages.kept.entries) (kept.0 ∙ c.capacity_of-capacity.ensures) kept.1 (ap pages_of kept.2) kept.3) c.tally.ensures

pub returns-in-Ok-clause-steps : goal.returns-in-Ok-clause-steps
returns-in-Ok-clause-steps g c =
    let run = c.serve-end.ensures.stands in
    let hub = c.in-Ok.hub in
    let new = c.in-Ok.ensures.new in
    let kept = c.in-Ok.ensures.kept in
    let texts : Changes g.P.Versions.State = record { changed = g.P.Versions.changed; accepts = g.P.Versions.accepts; stays = g.P.Versions.stays } in
    happens_in_steps hub c.serve-end.new.hub c.args.origin g.P.Versions.site g.P.Versions.templates texts (g.P.Versions.state c.args.pages) c.args.requests c.args.turns c.args.room
    (λ p. g.P.Versions.state p.pages) (λ p. record { room = record { pages = p.kept.cap; bytes = p.most }; pages = pages_of p.kept.entries; hits = p.hits })
    (g.W.Wire.told c.args.wire.now)
    (g.W.Wire.told c.serve-end.new.wire)
    c.serve-end.result c.tally.result run.0 c.requires.requests run.2 run.3 run.4 run.1 run.5 run.6 c.in-Ok.ensures.none new.0 new.1 (ap g.P.Versions.state c.in-Ok.ensures.pages) new.2 new.3 new.4 new.5 new.6
    (new_kept hub.pages.kept.cap hub.pages.most c.args.room hub.pages.hits (pages_of hub.pages.kept.entries) (kept.0 ∙ c.capacity_of-capacity.ensures) kept.1 (ap pages_of kept.2) kept.3) c.tally.ensures
    (g.W.Wire.trace c.args.wire.now) (g.W.Wire.trace c.serve-end.new.wire) run.7

pub returns-in-Err-clause-serves : goal.returns-in-Err-clause-serves
returns-in-Err-clause-serves g c =
    let texts : Changes g.P.Versions.State = record { changed = g.P.Versions.changed; accepts = g.P.Versions.accepts; stays = g.P.Versions.stays } in
    serves_nothing c.args.origin g.P.Versions.site g.P.Versions.templates texts (g.P.Versions.state c.args.pages) c.args.requests c.args.turns c.args.room
    (g.W.Wire.told c.args.wire.now)

pub returns-in-Err-clause-steps : goal.returns-in-Err-clause-steps
returns-in-Err-clause-steps g c =
    let texts : Changes g.P.Versions.State = record { changed = g.P.Versions.changed; accepts = g.P.Versions.accepts; stays = g.P.Versions.stays } in
    no_steps_happen c.args.origin g.P.Versions.site g.P.Versions.templates texts (g.P.Versions.state c.args.pages) c.args.requests c.args.turns c.args.room
    (g.W.Wire.told c.args.wire.now) (g.W.Wire.trace c.args.wire.now)

pub returns-in-Ok-clause-whole : goal.returns-in-Ok-clause-whole
returns-in-Ok-clause-whole g c =
    λ events told_left room fine.
    let run = c.serve-end.ensures.stands in
    whole_run c.args.turns events run.0 (g.W.Wire.told c.args.wire.now).left (g.W.Wire.told c.serve-end.new.wire).left c.serve-end.result told_left run.3 run.4 room
    (λ failed. fine (c.serve-end.ensures.failed failed))
