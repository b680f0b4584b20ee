use Rattle.std.proofs.Common.{◌≡◌, arith, sym, ◌∙◌, ap, true, false}
use Rattle.list_lookup.specs.Picked.{passes}
use Rattle.list_lookup.specs.PickedLaws.{ends_by}
use Rattle.list_lookup.proofs.reach.Goals as goal

pub returns-then-not-is_passed : goal.returns-then-not-is_passed
returns-then-not-is_passed g c =
    let over : passes true (g.Q.Query.at c.args.query.now c.index-items-near.result) ≡ false = ap (passes true) (sym c.place.ensures) ∙ sym c.if-not-is_passed.ensures in
    ends_by (g.Q.Query.at c.args.query.now) c.args.items.now c.requires c.loop-near.near c.index-items-near.result (omega arith) c.index-items-near.is over
