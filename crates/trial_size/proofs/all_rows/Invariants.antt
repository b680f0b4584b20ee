use Rattle.std.proofs.Common.{take}
use Rattle.std.specs.Prelude.{sum_by}
use Rattle.counterexample_spec.specs.Trial.{rows_bound}
use Rattle.trial_size.specs.Cut.{IsCut}
use Rattle.trial_size.proofs.all_rows.Given as goal

abbrev pub invariant-loop-block : goal.invariant-loop-block
invariant-loop-block l =
    IsCut (sum_by (λ b. rows_bound l.graph b.chain.conditions) (take l.block-index l.blocks.blocks.items)) l.all
