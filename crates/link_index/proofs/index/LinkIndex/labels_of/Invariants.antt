use Rattle.std.proofs.Common.{take}
use Rattle.link_index.proofs.Lookups.{IsPicked}
use Rattle.link_index.proofs.index.LinkIndex.labels_of.Given as goal

abbrev pub invariant-loop-link : goal.invariant-loop-link
invariant-loop-link l = IsPicked (λ k. k.function.now) (λ k. k.label.now) l.functions (take l.link-index l.link-items) l.found.items
