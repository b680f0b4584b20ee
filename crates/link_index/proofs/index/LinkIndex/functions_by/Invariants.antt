use Rattle.std.proofs.Common.{take}
use Rattle.link_index.proofs.Lookups.{IsPicked}
use Rattle.link_index.proofs.index.LinkIndex.functions_by.Given as goal

abbrev pub invariant-loop-link : goal.invariant-loop-link
invariant-loop-link l = IsPicked (λ k. k.label.now) (λ k. k.function.now) l.labels (take l.link-index l.link-items) l.found.items
