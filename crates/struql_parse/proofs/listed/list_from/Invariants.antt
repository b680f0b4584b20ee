use Rattle.std.proofs.Common.{◌≡◌, [], ◌∷◌, length}
use Rattle.std.specs.Prelude.{map}
use Rattle.sd_lex.specs.declared.token.Sign.TheVariants as signs
use Rattle.grammar.specs.Reading.{iterate}
use Rattle.token_reader.specs.Terminals.{is_sign}
use Rattle.struql_text.specs.Reading.{read_further}
use Rattle.struql_parse.proofs.listed.list_from.Given as goal

abbrev pub invariant-list : goal.invariant-list
invariant-list g l = iterate (is_sign signs.Comma) (read_further (g.T.Listed.read l.fn.version)) (map g.T.Listed.written l.items.items) l.rest ≡ iterate (is_sign signs.Comma) (read_further (g.T.Listed.read l.fn.version)) (g.T.Listed.written l.fn.first ∷ []) l.tokens

abbrev pub decreases-list : goal.decreases-list
decreases-list g l = length l.rest
