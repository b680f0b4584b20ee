use Rattle.std.proofs.Common.{◌≡◌, take, map}
use Rattle.constraints.specs.ConstraintText.{constraint_of}
use Rattle.constraints.proofs.text.constraints_of.Given as goal

abbrev pub invariant-loop-phrase : goal.invariant-loop-phrase
invariant-loop-phrase l = l.found.items ≡ map constraint_of (take l.phrase-index l.phrases)
