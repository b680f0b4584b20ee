use Rattle.std.proofs.Common.{arith, ◌≡◌, ◌<◌, length, slice_index}
use Rattle.std.proofs.lemmas.List.{get_or_read}
use Rattle.inclusion.proofs.Bits.{reach_turn, reach_skip, bit_tested}
use Rattle.inclusion.proofs.masks.reach_of.Goals as goal
use Rattle.inclusion.proofs.masks.reach_of.Goals.{then-set-r-eq1, else-set-r-eq1}

pub loop-r-preserved : goal.loop-r-preserved
loop-r-preserved c =
    let next = c.args.next.now.items in
    let small : c.loop-r.r < length next = omega (arith, c.args.next.now.ok.0) in
    elim c.if-set-r-eq1.branch [
      | then-set-r-eq1 w ↦
          let here : w.index.result.now ≡ slice_index next c.loop-r.r = get_or_read next c.loop-r.r _ small w.index.ensures 0 in
          rw w.reach-is (reach_turn next c.args.set c.loop-r.r c.loop-r.reach w.index.result.now c.loop-r.invariant here ((bit_tested c.args.set c.loop-r.r).0 w.if-set-r-eq1.true))
      | else-set-r-eq1 w ↦
          rw w.reach-is (reach_skip next c.args.set c.loop-r.r c.loop-r.reach c.loop-r.invariant (λ h. w.if-set-r-eq1.false ((bit_tested c.args.set c.loop-r.r).1 h)))
    ]
