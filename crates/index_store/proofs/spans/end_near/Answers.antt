use Rattle.std.proofs.Common.{◌≡◌, arith, sym, ◌∙◌, ap, true, false}
use Rattle.list_lookup.specs.Picked.{passes}
use Rattle.list_lookup.specs.PickedLaws.{all_before, none_after}
use Rattle.index_store.proofs.spans.end_near.Goals as goal

pub returns-then-not-is_passed : goal.returns-then-not-is_passed
returns-then-not-is_passed g c =
    let over : passes c.args.through (g.Q.Query.at c.args.query.now c.index-items-at.result) ≡ false = ap (passes c.args.through) (sym c.place.ensures) ∙ sym c.if-not-is_passed.ensures in
    record { fits = omega arith; before = c.loop-at.invariant.1; after = none_after (g.Q.Query.at c.args.query.now) c.args.items.now c.requires c.args.through c.loop-at.at c.index-items-at.result (omega arith) c.index-items-at.is over }

pub loop-at-preserved : goal.loop-at-preserved
loop-at-preserved g c =
    let passed : passes c.args.through (g.Q.Query.at c.args.query.now c.index-items-at.result) ≡ true = ap (passes c.args.through) (sym c.place.ensures) ∙ sym c.if-not-is_passed.ensures in
    (omega arith, all_before (g.Q.Query.at c.args.query.now) c.args.items.now c.requires c.args.through c.loop-at.at c.index-items-at.result (omega arith) c.index-items-at.is passed)
