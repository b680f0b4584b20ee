use Rattle.std.proofs.Common.{◌≡◌, length}
use Rattle.grammar.specs.Reading.{repeat, with_front}
use Rattle.token_reader.specs.Terminals.{is_name}
use Rattle.ddl_text.specs.Reading.{read_field}
use Rattle.ddl_text.proofs.reading.fields_at.Given as goal

abbrev pub invariant-fields : goal.invariant-fields
invariant-fields l = with_front l.fields.items (repeat is_name read_field l.rest) ≡ repeat is_name read_field l.tokens

abbrev pub decreases-fields : goal.decreases-fields
decreases-fields l = length l.rest
