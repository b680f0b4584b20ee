use Rattle.json_source.proofs.Lists.{few_items, two_items}
use Rattle.json_source.proofs.orders.are_ordered.Goals as goal

pub returns-then-items-lt2 : goal.returns-then-items-lt2
returns-then-items-lt2 c = rw (few_items c.args.items.now c.if-items-lt2.true)

pub returns : goal.returns
returns c = rw (two_items c.args.items.now c.if-items-lt2.false) c.are_shown.ensures
