use Rattle.std.proofs.Common.{arith, ap, sym, ◌∙◌, subst, length, ◌≡◌, ◌<◌}
use Rattle.std.specs.Prelude.{slice_index}
use Rattle.std.proofs.lemmas.List.{length-map, get_or-map, get_or_default}
use Rattle.index_store.specs.Ranks.{targets}
use Rattle.index_store.proofs.FirstLaws.{AreNumbered, numbered_more, number_fits, all_numbered}
use Rattle.index_store.proofs.ranks.first_places.Goals as goal

pub loop-place-preserved : goal.loop-place-preserved
loop-place-preserved g c =
    let within = number_fits (targets c.args.items.now) c.loop-place.place (targets c.loop-place.set.keys) c.loop-place.firsts.items c.loop-place.originals.items c.loop-place.invariant.0
    c.index-items-place.result.now c.in_ok-number.is_new c.in_ok-number.number (rw c.in_ok-number.ensures.keys at c.in_ok-number.ensures.number) in
    let firsts = c.push_if.new.places.items in
    let long : c.in_ok-number.number < length firsts = rw c.in_ok-push_if.ensures within in
    let v : c.index.result.now ≡ slice_index firsts c.in_ok-number.number = c.index.ensures ∙ sym (get_or_default firsts c.in_ok-number.number 0 c.index.result.now long) in (
      rw (c.in_ok-number.ensures.keys, c.in_ok-push.ensures.items, v, c.in_ok-push_if.ensures)
          (numbered_more (targets c.args.items.now) c.loop-place.place (targets c.loop-place.set.keys) c.loop-place.firsts.items c.loop-place.originals.items c.loop-place.invariant.0
          c.index-items-place.result.now
          (λ d. get_or-map (λ r. r.now) c.args.items.now c.loop-place.place c.index-items-place.result d (omega arith) ∙ ap (λ r. r.now) (sym c.index-items-place.is))
          c.in_ok-number.is_new c.in_ok-number.number (rw c.in_ok-number.ensures.keys at c.in_ok-number.ensures.number)),
      c.in_ok-number.ensures.apart,
    )

pub returns : goal.returns
returns g c =
    let n : c.loop-place.place ≡ length (targets c.args.items.now) = omega (arith, length-map c.args.items.now (λ r. r.now)) in
    all_numbered (targets c.args.items.now) (targets c.loop-place.set.keys) c.loop-place.firsts.items c.loop-place.originals.items
    (subst (λ k. AreNumbered (targets c.args.items.now) k (targets c.loop-place.set.keys) c.loop-place.firsts.items c.loop-place.originals.items) n c.loop-place.invariant.0)
    c.loop-place.invariant.1
