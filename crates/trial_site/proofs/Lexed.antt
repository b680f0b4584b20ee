-- The tokens of a text, by evaluation.
use Rattle.std.proofs.Common.{◌≡◌, ℕ, zero, suc, ◌+◌, ◌-◌, List, [], ◌∷◌, ◌++◌, length, drop, refl, sym, ap, subst}
use Rattle.std.proofs.Common.{◌∙◌, Option, Some, None, Result, Ok, Err}
use Rattle.sd_lex.specs.declared.refusal.LexRefusal.{LexRefusal}
use Rattle.sd_lex.specs.declared.token.Token.{Token}
use Rattle.sd_lex.specs.Lexing.{Lexes, here, token, IsTokenAt, IsTokenOrFault, IsLexed}
use Rattle.sd_lex.specs.Reading.{gap, lexeme}
use Rattle.sd_lex.proofs.Fronts.{drop_front}
use Rattle.sd_lex.proofs.Gaps.{joined, gap_passes}
use Rattle.sd_lex.proofs.Lexemes.{lexeme_found}
use Rattle.sd_lex.proofs.WholeText.{token_len}

-- reads on from a place
abbrev Next : Type 0
Next = ℕ → List ℕ → Option (List Token)

unfoldable pub with_token : Token → Option (List Token) → Option (List Token)
with_token t None = None
with_token t (Some tokens) = Some (t ∷ tokens)

unfoldable pub by_token : Next → ℕ → List ℕ → Result Token LexRefusal → Option (List Token)
by_token next at bytes (Ok t) = with_token t (next t.span.«end» (drop (t.span.«end» - at) bytes))
by_token next at bytes (Err e) = None

unfoldable pub by_gap : Next → ℕ → List ℕ → ℕ → Option (List Token)
by_gap next at bytes zero = by_token next at bytes (lexeme at bytes)
by_gap next at bytes (suc more) = next (at + suc more) (drop (suc more) bytes)

-- the tokens of the bytes, where so many steps read all of them
unfoldable pub lexed : ℕ → Next
lexed zero at bytes = None
lexed (suc steps) at [] = Some []
lexed (suc steps) at (b ∷ bytes) = by_gap (lexed steps) at (b ∷ bytes) (gap (b ∷ bytes))

abbrev IsSound : Next → Type 0
IsSound next = (at : ℕ) (bytes : List ℕ) (tokens : List Token) → next at bytes ≡ Some tokens → IsLexed at bytes tokens

token_sound : (next : Next) (at : ℕ) (bytes text later : List ℕ) (t : Token) (tokens : List Token) → IsSound next
    → bytes ≡ text ++ later → IsTokenAt at text later t
    → (o : Option (List Token)) → next t.span.«end» (drop (t.span.«end» - at) bytes) ≡ o
    → with_token t o ≡ Some tokens → IsLexed at bytes tokens
unfolding with_token
token_sound next at bytes text later t tokens sound parts is None e f = absurd cc
token_sound next at bytes text later t tokens sound parts is (Some others) e f =
    let tail : drop (t.span.«end» - at) bytes ≡ later =
    ap (λ n. drop n bytes) (token_len at text later t is) ∙ ap (drop (length text)) parts ∙ drop_front text later in
    let rest = sound t.span.«end» (drop (t.span.«end» - at) bytes) others e in
    let from : Lexes rest.0 [] (at + length text) later others =
    subst (λ n. Lexes rest.0 [] n later others) is.last
    (subst (λ z. Lexes rest.0 [] t.span.«end» z others) tail rest.1) in
    let whole : t ∷ others ≡ tokens = cc in
    (rest.0, token text later t others parts is (sym whole) from)

by_token_sound : (next : Next) (at : ℕ) (bytes : List ℕ) (tokens : List Token) → IsSound next
    → (r : Result Token LexRefusal) → IsTokenOrFault at bytes r
    → by_token next at bytes r ≡ Some tokens → IsLexed at bytes tokens
unfolding by_token
by_token_sound next at bytes tokens sound (Ok t) (text, later, parts, is) e =
    token_sound next at bytes text later t tokens sound parts is
    (next t.span.«end» (drop (t.span.«end» - at) bytes)) refl e
by_token_sound next at bytes tokens sound (Err f) found e = absurd cc

by_gap_sound : (next : Next) (at : ℕ) (bytes : List ℕ) (tokens : List Token) → IsSound next → (n : ℕ) → gap bytes ≡ n
    → by_gap next at bytes n ≡ Some tokens → IsLexed at bytes tokens
unfolding by_gap
by_gap_sound next at bytes tokens sound zero is e =
    by_token_sound next at bytes tokens sound (lexeme at bytes) (lexeme_found at bytes) e
by_gap_sound next at bytes tokens sound (suc more) is e =
    let rest = sound (at + suc more) (drop (suc more) bytes) tokens e in
    let passed : Lexes (at + suc more) (drop (suc more) bytes) at bytes [] =
    subst (λ n. Lexes (at + n) (drop n bytes) at bytes []) is ((gap_passes bytes).passed at) in
    (rest.0, joined rest.0 [] tokens passed rest.1)

pub lexed_sound : (steps : ℕ) → IsSound (lexed steps)
unfolding lexed
lexed_sound zero at bytes tokens e = absurd cc
lexed_sound (suc steps) at [] tokens e = let none : [] ≡ tokens = cc in (at, here refl (sym none) refl)
lexed_sound (suc steps) at (b ∷ bytes) tokens e =
    by_gap_sound (lexed steps) at (b ∷ bytes) tokens (lexed_sound steps) (gap (b ∷ bytes)) refl e
