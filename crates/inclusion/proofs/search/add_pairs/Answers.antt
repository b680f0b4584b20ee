use Rattle.std.proofs.Common.{arith, ◌≡◌, ◌+◌, ◌*◌, ◌<◌, length, slice_index, refl}
use Rattle.std.specs.Prelude.{bit_and}
use Rattle.std.proofs.lemmas.List.{get_or_read}
use Rattle.std.proofs.lemmas.Nat.{and_le_r, mul-add-lt}
use Rattle.inclusion.specs.Search.{IsPairOf}
use Rattle.inclusion.proofs.Marks.{grows_weaker, widen, grows_turn, each_turn, each_skip}
use Rattle.inclusion.proofs.search.add_pairs.Goals as goal
use Rattle.inclusion.proofs.search.add_pairs.Goals.{then-contains+in_ok-add_pair, else-contains}

pub add_pair-requires-clause-set : goal.add_pair-requires-clause-set
add_pair-requires-clause-set c =
    let covers = c.args.masks.now.covers.items in
    let small : c.loop-p.p < length covers = omega arith in
    let here : c.index.result.now ≡ slice_index covers c.loop-p.p = get_or_read covers c.loop-p.p _ small c.index.ensures 0 in
    let below = c.requires.sets c.loop-p.p (omega arith) in
    omega (arith, and_le_r c.args.reach c.index.result.now)

pub add_pair-requires-clause-place : goal.add_pair-requires-clause-place
add_pair-requires-clause-place c =
    let covers = c.args.masks.now.covers.items in
    let p = c.loop-p.p in
    let count = length c.args.a.now.letters in
    let small : p < length covers = omega arith in
    let within : p < count = omega arith in
    let here : c.index.result.now ≡ slice_index covers p = get_or_read covers p _ small c.index.ensures 0 in
    let below = c.requires.sets p within in
    let set : bit_and c.args.reach c.index.result.now < c.args.width = omega (arith, and_le_r c.args.reach c.index.result.now) in
    let place : p * c.args.width + bit_and c.args.reach c.index.result.now < c.args.width * count = mul-add-lt p c.args.width _ count within set in
    omega (arith, place, c.loop-p.invariant.grows.size, c.requires.size)

pub loop-p-preserved : goal.loop-p-preserved
loop-p-preserved c =
    let positions = c.args.positions.now in
    let reach = c.args.reach in
    let covers = c.args.masks.now.covers.items in
    let p = c.loop-p.p in
    let small : p < length covers = omega arith in
    elim c.if-contains.branch [
      | then-contains+in_ok-add_pair w ↦
          let here : w.index.result.now ≡ slice_index covers p = get_or_read covers p _ small w.index.ensures 0 in
          rw (w.marks-is, w.order-is) (record {
            listed = w.in_ok-add_pair.ensures.listed;
            grows = grows_turn positions reach covers p _ _ _ _ _ _ _ c.loop-p.invariant.grows (w.if-contains.ensures.0 refl) here w.in_ok-add_pair.ensures.grows;
            each = each_turn positions reach covers p _ _ _ _ _ c.loop-p.invariant.each here w.in_ok-add_pair.ensures.grows w.in_ok-add_pair.ensures.here;
          })
      | else-contains w ↦
          rw (w.marks-is, w.order-is) (record {
            listed = c.loop-p.invariant.listed;
            grows = grows_weaker (IsPairOf p positions reach covers) (IsPairOf (p + 1) positions reach covers) _ _ _ _
                (widen positions reach covers p (p + 1) (omega arith)) c.loop-p.invariant.grows;
            each = each_skip positions reach covers p _ c.loop-p.invariant.each (λ h. let off = w.if-contains.ensures.1 h in cc);
          })
    ]

pub returns-clause-grows : goal.returns-clause-grows
returns-clause-grows c =
    let positions = c.args.positions.now in
    let reach = c.args.reach in
    let covers = c.args.masks.now.covers.items in
    let count = length c.args.a.now.letters in
    grows_weaker (IsPairOf c.loop-p.p positions reach covers) (IsPairOf count positions reach covers) _ _ _ _
    (widen positions reach covers c.loop-p.p count (omega arith)) c.loop-p.invariant.grows

pub returns-clause-each : goal.returns-clause-each
returns-clause-each c =
    let positions = c.args.positions.now in
    let reach = c.args.reach in
    let covers = c.args.masks.now.covers.items in
    let count = length c.args.a.now.letters in
    λ x h. c.loop-p.invariant.each x (widen positions reach covers count c.loop-p.p (omega arith) x h)
