use Rattle.std.proofs.Common.{◌≡◌, arith, sym, ◌∙◌, ap, true, false}
use Rattle.list_lookup.specs.Picked.{passes}
use Rattle.list_lookup.specs.PickedLaws.{all_before, none_after}
use Rattle.list_lookup.proofs.first_past.Goals as goal

pub loop-low-preserved-then-is_passed : goal.loop-low-preserved-then-is_passed
loop-low-preserved-then-is_passed g c =
    let passed : passes c.args.through (g.Q.Query.at c.args.query.now c.index-items-middle.result) ≡ true = ap (passes c.args.through) (sym c.place.ensures) ∙ sym c.is_passed.ensures ∙ c.if-is_passed.true in
    (omega arith, c.loop-low.invariant.1, all_before (g.Q.Query.at c.args.query.now) c.args.items.now c.requires c.args.through _ c.index-items-middle.result (omega arith) c.index-items-middle.is passed, c.loop-low.invariant.3)

pub loop-low-preserved : goal.loop-low-preserved
loop-low-preserved g c =
    let over : passes c.args.through (g.Q.Query.at c.args.query.now c.index-items-middle.result) ≡ false = ap (passes c.args.through) (sym c.place.ensures) ∙ sym c.is_passed.ensures ∙ c.if-is_passed.false in
    (omega arith, omega arith, c.loop-low.invariant.2, none_after (g.Q.Query.at c.args.query.now) c.args.items.now c.requires c.args.through _ c.index-items-middle.result (omega arith) c.index-items-middle.is over)
