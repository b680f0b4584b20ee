use Rattle.std.proofs.Common.{◌≡◌, ◌++◌, take}
use Rattle.std.specs.Prelude.{map}
use Rattle.composed_data.proofs.names.push_names.Given as goal

abbrev pub invariant-loop-collect : goal.invariant-loop-collect
invariant-loop-collect l =
    l.names.items ≡ l.fn.names.items ++ map (λ c. c.collection) (take l.collect-index l.collects)
