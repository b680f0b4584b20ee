use Rattle.std.proofs.Common.{◌≡◌, length, [], ◌∷◌}
use Rattle.grammar.specs.Reading.{repeat, with_front}
use Rattle.token_reader.specs.Terminals.{is_sign}
use Rattle.ddl_text.specs.Reading.{read_further_name}
use Rattle.sd_lex.specs.declared.token.Sign.TheVariants as signs
use Rattle.ddl_text.proofs.reading.further_names_at.Given as goal

abbrev pub invariant-names : goal.invariant-names
invariant-names l = with_front l.names.items (repeat (is_sign signs.Comma) read_further_name l.rest) ≡ with_front (l.fn.first ∷ []) (repeat (is_sign signs.Comma) read_further_name l.tokens)

abbrev pub decreases-names : goal.decreases-names
decreases-names l = length l.rest
