-- What the reader of an edit's bytes answers, and that a text has one answer.
use Rattle.std.specs.Prelude.{◌≡◌, ℕ, List, length, Result, Ok, Err, ⊤}
use Rattle.sd_lex.specs.declared.token.Token.{Token}
use Rattle.sd_lex.specs.declared.refusal.LexRefusal.TheVariants as lexer
use Rattle.sd_lex.specs.Lexing.{IsTextOrFault}
use Rattle.grammar.specs.Fault.{FirstFault}
use Rattle.token_reader.specs.Gives.{place, IsReal}
use Rattle.edit_spec.specs.declared.Edit.{Edit}
use Rattle.token_reader.specs.declared.refusal.TextRefusal.{TextRefusal}
use Rattle.token_reader.specs.declared.refusal.TextRefusal.TheVariants.{TooLong, BadByte, OpenString, IntOutOfRange, Expected, NoMemory}
use Rattle.edit_reader.specs.EditText.{edit}

-- the text's tokens spell the edit
abbrev pub IsEditText : ℕ → List ℕ → Edit → Type 0
IsEditText limit bytes e =
    (tokens : List Token) × IsTextOrFault limit bytes (Ok tokens) × edit tokens e

-- This is the place of the first token such that no edit begins with the tokens up to and with it, or the text's end
-- where more tokens are wanted.
abbrev pub IsFaultAt : ℕ → List ℕ → ℕ → Type 0
IsFaultAt limit bytes at =
    (tokens : List Token) × IsTextOrFault limit bytes (Ok tokens) × (rest : List Token)
    × FirstFault IsReal edit edit tokens rest × (at ≡ place (length bytes) rest)

-- `Ok` has the edit. A text that has no tokens has the lexer's fault; one whose tokens spell no edit has the first
-- fault of the grammar.
abbrev pub Reads : ℕ → List ℕ → Result Edit TextRefusal → Type 0
Reads limit bytes (Ok e) = IsEditText limit bytes e
Reads limit bytes (Err (TooLong at)) = IsTextOrFault limit bytes (Err (lexer.TooLong at))
Reads limit bytes (Err (BadByte at)) = IsTextOrFault limit bytes (Err (lexer.BadByte at))
Reads limit bytes (Err (OpenString at)) = IsTextOrFault limit bytes (Err (lexer.OpenString at))
Reads limit bytes (Err (IntOutOfRange at)) =
    IsTextOrFault limit bytes (Err (lexer.IntOutOfRange at))
Reads limit bytes (Err (Expected at)) = IsFaultAt limit bytes at
Reads limit bytes (Err NoMemory) = Unit {0}

-- any answer but out of memory
abbrev pub IsSettled : Result Edit TextRefusal → Type 0
IsSettled (Err NoMemory) = ⊥
IsSettled answer = ⊤

-- two such answers to the same bytes are equal
abbrev pub HasOneAnswer : ℕ → List ℕ → Type 0
HasOneAnswer limit bytes =
    (r s : Result Edit TextRefusal) → Reads limit bytes r → Reads limit bytes s
    → IsSettled r → IsSettled s → r ≡ s
