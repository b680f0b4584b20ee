use Rattle.std.proofs.Common.{◌≡◌, ◌++◌, drop}
use Rattle.template_layouts.specs.Together.{filled}
use Rattle.template_layouts.proofs.ended.filled.Given as goal

abbrev pub invariant-loop-item : goal.invariant-loop-item
invariant-loop-item l = l.items.items ++ filled l.body (drop l.item-index l.layout) ≡ filled l.body l.layout
