use Rattle.std.proofs.Common.{◌≡◌, ◌++◌}
use Rattle.std.specs.BTreeMap.{keys}
use Rattle.live_layers.proofs.groups.Groups.keys.Given as goal

-- the keys so far, and then the rest
abbrev pub invariant-loop-key : goal.invariant-loop-key
invariant-loop-key g l = l.found.items ++ l.key-iterator ≡ keys l.self.of
