use Rattle.std.proofs.Common.{◌≡◌, [], ◌∷◌, length, true}
use Rattle.sd_lex.specs.declared.token.Sign.TheVariants as signs
use Rattle.grammar.specs.Reading.{iterate, take_one}
use Rattle.token_reader.specs.Terminals.{is_sign}
use Rattle.struql_text.specs.Terminals.{constant_value}
use Rattle.struql_text.specs.Reading.{read_further}
use Rattle.struql_text.proofs.conditions.constants_from.Given as goal

abbrev pub invariant-list : goal.invariant-list
invariant-list l = iterate (is_sign signs.Comma) (read_further (take_one true constant_value)) l.items.items l.rest ≡ iterate (is_sign signs.Comma) (read_further (take_one true constant_value)) (l.fn.first ∷ []) l.tokens

abbrev pub decreases-list : goal.decreases-list
decreases-list l = length l.rest
