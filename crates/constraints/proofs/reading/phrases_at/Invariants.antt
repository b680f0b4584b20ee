use Rattle.std.proofs.Common.{◌≡◌, length}
use Rattle.grammar.specs.Reading.{repeat, with_front}
use Rattle.constraints.specs.Reading.{read_phrase, begins_phrase}
use Rattle.constraints.proofs.reading.phrases_at.Given as goal

abbrev pub invariant-phrases : goal.invariant-phrases
invariant-phrases l = with_front l.phrases.items (repeat begins_phrase read_phrase l.rest) ≡ repeat begins_phrase read_phrase l.tokens

abbrev pub decreases-phrases : goal.decreases-phrases
decreases-phrases l = length l.rest
