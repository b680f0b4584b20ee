-- Single tokens of an ORDER.
use Rattle.std.specs.Prelude.{ℕ, ℤ, pos, negsuc, Bool, ◌||◌, Option, Some, None, nat_lt, if◌then◌else◌, codes}
use Rattle.sd_lex.specs.declared.token.Token.{Token}
use Rattle.sd_lex.specs.declared.token.TokenKind.{TokenKind}
use Rattle.sd_lex.specs.declared.token.TokenKind.TheVariants as kinds
use Rattle.token_reader.specs.Terminals.{is_word}

-- a number from 1 on
abbrev pub counted : ℤ → Option ℕ
counted (pos n) = if nat_lt 0 n then Some n else None
counted (negsuc n) = None

-- the number from 1 on that a token's kind is
abbrev pub count_kind_value : TokenKind → Option ℕ
count_kind_value (kinds.Name n) = None
count_kind_value (kinds.Quoted q) = None
count_kind_value (kinds.Int i) = counted i
count_kind_value (kinds.Sign s) = None

-- the number from 1 on that a token is
abbrev pub count_value : Token → Option ℕ
count_value t = count_kind_value t.kind

-- the token begins a place
abbrev pub begins_place : Token → Bool
begins_place t =
    is_word (codes "position") t ||
    (is_word (codes "next") t || (is_word (codes "previous") t || is_word (codes "page") t))
