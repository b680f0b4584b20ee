use Rattle.std.proofs.Common.{◌≡◌, map, take}
use Rattle.std.specs.List.{filter, join_with_byte}
use Rattle.function_spec.specs.Words.{is_filled}
use Rattle.text_functions.proofs.words.joined.Given as goal

abbrev pub invariant-loop-word : goal.invariant-loop-word
invariant-loop-word l = l.text.items ≡ join_with_byte l.mark (filter is_filled (map (λ w. w.now) (take l.word-index l.words)))
