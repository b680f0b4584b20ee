use Rattle.std.proofs.Common.{◌≡◌, take}
use Rattle.certificate_search.proofs.sources.copied_uses.Given as goal

abbrev pub invariant-loop-item : goal.invariant-loop-item
invariant-loop-item l = l.copies.items ≡ take l.item-index l.uses
