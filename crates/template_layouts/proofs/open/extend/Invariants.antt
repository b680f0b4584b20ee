use Rattle.std.proofs.Common.{◌≡◌, ◌++◌, drop}
use Rattle.template_layouts.proofs.open.extend.Given as goal

abbrev pub invariant-loop-item : goal.invariant-loop-item
invariant-loop-item l = l.items.items ++ drop l.item-index l.more ≡ l.fn.items.items ++ l.more
