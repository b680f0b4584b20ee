-- A bare name.
use Rattle.std.specs.Prelude.{ℕ, true, List, Option, Some, None}
use Rattle.sd_lex.specs.declared.token.Token.{Token}
use Rattle.sd_lex.specs.declared.token.TokenKind.{TokenKind}
use Rattle.sd_lex.specs.declared.token.TokenKind.TheVariants as kinds
use Rattle.grammar.specs.Grammar.{one}
use Rattle.grammar.specs.Reading.{Outcome, take_one}
use Rattle.token_reader.specs.declared.reading.Word.{Word}

-- the bare name that a token's kind is
abbrev pub bare_kind_value : ℕ → TokenKind → Option Word
bare_kind_value place (kinds.Name n) = Some (record { text = n; place = place })
bare_kind_value place (kinds.Quoted q) = None
bare_kind_value place (kinds.Int i) = None
bare_kind_value place (kinds.Sign r) = None

-- the bare name that a token is
abbrev pub bare_value : Token → Option Word
bare_value t = bare_kind_value t.span.start t.kind

-- its grammar, and its reader
abbrev pub bare : List Token → Word → Type 0
bare = one bare_value

abbrev pub read_bare : List Token → Outcome Token Word
read_bare = take_one true bare_value
