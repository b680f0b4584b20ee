-- The number of a connection.
use Rattle.std.specs.Prelude.{ℕ, zero, suc, true, ℤ, pos, negsuc, Option, Some, None, List}
use Rattle.sd_lex.specs.declared.token.Token.{Token}
use Rattle.sd_lex.specs.declared.token.TokenKind.{TokenKind}
use Rattle.sd_lex.specs.declared.token.TokenKind.TheVariants as kinds
use Rattle.grammar.specs.Grammar.{one}
use Rattle.grammar.specs.Reading.{Outcome, take_one}

-- an integer from 1 on
abbrev pub positive : ℤ → Option ℕ
positive (pos zero) = None
positive (pos (suc n)) = Some (suc n)
positive (negsuc n) = None

abbrev pub connection_kind_value : TokenKind → Option ℕ
connection_kind_value (kinds.Name n) = None
connection_kind_value (kinds.Quoted q) = None
connection_kind_value (kinds.Int i) = positive i
connection_kind_value (kinds.Sign r) = None

abbrev pub connection_value : Token → Option ℕ
connection_value t = connection_kind_value t.kind

-- its grammar, and its reader
abbrev pub connection : List Token → ℕ → Type 0
connection = one connection_value

abbrev pub read_connection : List Token → Outcome Token ℕ
read_connection = take_one true connection_value
