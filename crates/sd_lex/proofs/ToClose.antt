-- The loop over tokens up to a `}`.
use Rattle.std.proofs.Common.{◌≡◌, inl, inr, ℕ, ◌+◌, true, false, List, [], ◌∷◌, ◌++◌, length, ◌∙◌, refl, Err}
use Rattle.std.specs.List.{list_any}
use Rattle.std.proofs.lemmas.List.Folds.{list_any-append}
use Rattle.sd_lex.specs.declared.refusal.LexRefusal.{LexRefusal}
use Rattle.sd_lex.specs.declared.refusal.LexRefusal.TheVariants.{TooLong, BadByte, OpenString, IntOutOfRange, NoMemory}
use Rattle.sd_lex.specs.declared.token.Token.{Token}
use Rattle.sd_lex.specs.declared.closing.Rest.{Rest}
use Rattle.sd_lex.specs.Lexing.{Lexes, IsTokensOrFault, UnlessNoMemory}
use Rattle.sd_lex.specs.Closing.{is_close, IsClosed, IsClosedOrFault}
use Rattle.sd_lex.proofs.WholeText.{Reached}

-- another token that is no `}`
pub still_open : (tokens : List Token) (t : Token) → list_any is_close tokens ≡ false → is_close t ≡ false
    → list_any is_close (tokens ++ t ∷ []) ≡ false
still_open tokens t none is = list_any-append is_close tokens (t ∷ []) ∙ (rw (none, is) refl)

-- the same fault
pub same_fault : (at : ℕ) (bytes : List ℕ) (tokens : List Token) (e : LexRefusal)
    → UnlessNoMemory {A = List Token} (IsTokensOrFault at bytes) (Err e)
    → UnlessNoMemory {A = Rest} (IsClosedOrFault at bytes tokens) (Err e)
same_fault at bytes tokens (TooLong p) h = h
same_fault at bytes tokens (BadByte p) h = h
same_fault at bytes tokens (OpenString p) h = h
same_fault at bytes tokens (IntOutOfRange p) h = h
same_fault at bytes tokens NoMemory h = tt

-- the text ends
pub all_left : (start : ℕ) (bytes : List ℕ) (at : ℕ) (rest : List ℕ) (tokens : List Token)
    → Reached start bytes at rest tokens → list_any is_close tokens ≡ false → rest ≡ []
    → Lexes at rest start bytes tokens × IsClosed tokens rest × (at + length rest ≡ start + length bytes)
all_left start bytes at rest tokens so_far none empty = (so_far.reached, inr (none, empty), so_far.place)

-- the `}` was found
pub closed : (start : ℕ) (bytes : List ℕ) (at : ℕ) (rest : List ℕ) (tokens : List Token) (t : Token)
    → Reached start bytes at rest (tokens ++ t ∷ [])
    → list_any is_close tokens ≡ false → is_close t ≡ true
    → Lexes at rest start bytes (tokens ++ t ∷ []) × IsClosed (tokens ++ t ∷ []) rest
    × (at + length rest ≡ start + length bytes)
closed start bytes at rest tokens t so_far none is = (so_far.reached, inl (tokens, t, refl, none, is), so_far.place)
