use Rattle.std.proofs.Common.{◌≡◌, length}
use Rattle.grammar.specs.Reading.{repeat, with_front}
use Rattle.token_reader.specs.Terminals.{is_name}
use Rattle.ddl_text.specs.Reading.{read_entry}
use Rattle.ddl_text.proofs.reading.entries_at.Given as goal

abbrev pub invariant-entries : goal.invariant-entries
invariant-entries l = with_front l.entries.items (repeat is_name read_entry l.rest) ≡ repeat is_name read_entry l.tokens

abbrev pub decreases-entries : goal.decreases-entries
decreases-entries l = length l.rest
