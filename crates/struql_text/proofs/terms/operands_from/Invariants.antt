use Rattle.std.proofs.Common.{◌≡◌, [], ◌∷◌, length}
use Rattle.sd_lex.specs.declared.token.Sign.TheVariants as signs
use Rattle.grammar.specs.Reading.{iterate}
use Rattle.token_reader.specs.Terminals.{is_sign}
use Rattle.struql_text.specs.Reading.{read_further, read_operand}
use Rattle.struql_text.proofs.terms.operands_from.Given as goal

abbrev pub invariant-list : goal.invariant-list
invariant-list l = iterate (is_sign signs.Comma) (read_further (read_operand l.fn.version)) l.items.items l.rest ≡ iterate (is_sign signs.Comma) (read_further (read_operand l.fn.version)) (l.fn.first ∷ []) l.tokens

abbrev pub decreases-list : goal.decreases-list
decreases-list l = length l.rest
