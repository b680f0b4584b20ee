use Rattle.std.proofs.Common.{◌≡◌, ◌++◌, take}
use Rattle.std.specs.List.{flat_map}
use Rattle.tmpl.specs.Expressions.{key_words}
use Rattle.edit_footprint.proofs.reads.add_keys.Given as goal

abbrev pub invariant-loop-key : goal.invariant-loop-key
invariant-loop-key l = l.out.items ≡ l.initial.out.items ++ flat_map (λ w. w) (key_words (take l.key-index l.keys))
