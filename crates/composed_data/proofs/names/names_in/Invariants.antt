use Rattle.std.proofs.Common.{◌≡◌, take}
use Rattle.std.specs.Prelude.{map}
use Rattle.std.specs.List.{flat_map}
use Rattle.composed_data.proofs.names.names_in.Given as goal

abbrev pub invariant-loop-block : goal.invariant-loop-block
invariant-loop-block l =
    l.names.items ≡ flat_map (λ b. map (λ c. c.collection) b.collects.items) (take l.block-index l.blocks)
