-- A text read part by part, each up to and with a `}`.
use Rattle.std.specs.Prelude.{◌≡◌, ◌⊎◌, ℕ, ◌+◌, ◌≤◌, ◌<◌, Bool, true, false, List, [], ◌∷◌, ◌++◌}
use Rattle.std.specs.Prelude.{length, Result, Ok, Err}
use Rattle.std.specs.List.{list_any}
use Rattle.sd_lex.specs.declared.refusal.LexRefusal.{LexRefusal}
use Rattle.sd_lex.specs.declared.refusal.LexRefusal.TheVariants.{TooLong}
use Rattle.sd_lex.specs.declared.token.Token.{Token}
use Rattle.sd_lex.specs.declared.token.TokenKind.{TokenKind}
use Rattle.sd_lex.specs.declared.token.TokenKind.TheVariants as kinds
use Rattle.sd_lex.specs.declared.token.Sign.{Sign}
use Rattle.sd_lex.specs.declared.token.Sign.TheVariants as signs
use Rattle.sd_lex.specs.declared.closing.Rest.{Rest}
use Rattle.sd_lex.specs.Lexing.{Lexes, IsFirstFault, behind_mark, mark_len}

-- the whole text behind its byte order mark, or that it is too long
abbrev pub IsStart : ℕ → List ℕ → Result Rest LexRefusal → Type 0
IsStart limit bytes (Ok rest) =
    (length bytes ≤ limit) × (rest.at ≡ mark_len bytes) × (rest.bytes.now ≡ behind_mark bytes)
    × (rest.at + length rest.bytes.now ≡ length bytes)
IsStart limit bytes (Err e) = (limit < length bytes) × (e ≡ TooLong limit)

abbrev pub is_close_sign : Sign → Bool
is_close_sign signs.CloseBrace = true
is_close_sign s = false

abbrev pub is_close_kind : TokenKind → Bool
is_close_kind (kinds.Sign s) = is_close_sign s
is_close_kind k = false

-- the token is a `}`
abbrev pub is_close : Token → Bool
is_close t = is_close_kind t.kind

-- the last of these tokens is a `}`, and no other; or none is, and nothing is left of the text
abbrev pub IsClosed : List Token → List ℕ → Type 0
IsClosed tokens left =
    ((front : List Token) × (last : Token) × (tokens ≡ front ++ last ∷ [])
    × (list_any is_close front ≡ false) × (is_close last ≡ true))
    ⊎ ((list_any is_close tokens ≡ false) × (left ≡ []))

-- The bytes from `at` on are blanks, comments and these tokens, up to and with the first `}`, and
-- then what is left. Or there is a fault before that.
abbrev pub IsClosedOrFault : ℕ → List ℕ → List Token → Result Rest LexRefusal → Type 0
IsClosedOrFault at bytes tokens (Ok left) =
    Lexes left.at left.bytes.now at bytes tokens × IsClosed tokens left.bytes.now
    × (left.at + length left.bytes.now ≡ at + length bytes)
IsClosedOrFault at bytes tokens (Err e) = IsFirstFault at bytes e
