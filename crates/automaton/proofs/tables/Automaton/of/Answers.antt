use Rattle.std.proofs.Common.{length, ap, ◌∙◌}
use Rattle.rpe.specs.Reading.{regex_of}
use Rattle.automaton.proofs.Spelling.{length-letters_of}
use Rattle.automaton.proofs.Words.{words_of}
use Rattle.automaton.proofs.tables.Automaton.of.Goals as goal

pub returns-in-Ok-clause-words : goal.returns-in-Ok-clause-words
returns-in-Ok-clause-words c = words_of _ (regex_of c.args.expression.now) c.in-Ok.ensures

pub returns-in-Ok-clause-positions : goal.returns-in-Ok-clause-positions
returns-in-Ok-clause-positions c = ap length c.in-Ok.ensures.letters ∙ length-letters_of (regex_of c.args.expression.now)
