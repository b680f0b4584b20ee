use Rattle.std.proofs.Common.{◌≡◌, take, map}
use Rattle.command_spec.proofs.Paths.of.Given as goal

abbrev pub invariant-loop-word : goal.invariant-loop-word
invariant-loop-word l = l.items.items ≡ map (λ word. word.now) (take l.word-index l.words)
