use Rattle.std.proofs.Common.{◌≡◌, length}
use Rattle.grammar.specs.Reading.{repeat, with_front}
use Rattle.ddl_text.specs.Reading.{read_statement, begins_statement}
use Rattle.ddl_text.proofs.reading.statements_at.Given as goal

abbrev pub invariant-statements : goal.invariant-statements
invariant-statements l = with_front l.statements.items (repeat begins_statement read_statement l.rest) ≡ repeat begins_statement read_statement l.tokens

abbrev pub decreases-statements : goal.decreases-statements
decreases-statements l = length l.rest
