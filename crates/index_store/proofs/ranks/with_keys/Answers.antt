use Rattle.std.proofs.Common.{ap, sym, ◌∙◌, take, get_or}
use Rattle.std.proofs.lemmas.List.{get_or-map}
use Rattle.std.proofs.lemmas.Grind.{take_at_read}
use Rattle.index_store.specs.Ranks.{targets}
use Rattle.index_store.proofs.KeyedLaws.{keyed_more}
use Rattle.index_store.proofs.ranks.with_keys.Goals as goal

pub loop-place-preserved : goal.loop-place-preserved
loop-place-preserved g c =
    rw (c.in_ok-push.ensures.items, (take_at_read c.args.places.now c.loop-place.place-index 0 c.loop-place-test.true).1)
    (keyed_more (targets c.args.items.now) (take c.loop-place.place-index c.args.places.now) c.loop-place.keyed.items c.loop-place.invariant
    (record { key = c.index-items-place.result; place = get_or c.args.places.now c.loop-place.place-index 0 })
    (λ d. sym (get_or-map (λ r. r.now) c.args.items.now (get_or c.args.places.now c.loop-place.place-index 0) c.index-items-place.result d (c.requires c.loop-place.place-index 0 c.loop-place-test.true) ∙ ap (λ r. r.now) (sym c.index-items-place.is))))
