-- Each text has tokens or a first fault: a gap is passed over, and where none begins a token does, or its fault.
use Rattle.std.proofs.Common.{◌≡◌, ℕ, zero, suc, ◌+◌, ◌≤◌, ◌<◌, Bool, true, false, List, [], ◌∷◌, ◌++◌, length, drop, refl, subst, ap, arith, length-append, Result, Ok, Err}
use Rattle.std.specs.Prelude.{nat_lt}
use Rattle.std.proofs.lemmas.Bool.Decides.{nat_tests}
use Rattle.std.proofs.lemmas.List.{length-drop}
use Rattle.sd_lex.specs.declared.refusal.LexRefusal.{LexRefusal}
use Rattle.sd_lex.specs.declared.refusal.LexRefusal.TheVariants.{TooLong, BadByte, OpenString, IntOutOfRange, NoMemory}
use Rattle.sd_lex.specs.declared.token.Token.{Token}
use Rattle.sd_lex.specs.Reading.{gap, lexeme}
use Rattle.sd_lex.specs.Lexing.{here, token, IsTokenAt, IsTokenOrFault, IsTokensOrFault, IsTextOrFault, behind_mark, mark_len, starts_gap}
use Rattle.sd_lex.proofs.Gaps.{Passes, gap_passes, gap_says, joined, spelled_some}
use Rattle.sd_lex.proofs.Lexemes.{lexeme_found}

-- the bytes from a place on have tokens or a first fault
abbrev HasTokens : ℕ → List ℕ → Type 0
HasTokens at bytes = (r : Result (List Token) LexRefusal) × IsTokensOrFault at bytes r

-- so have all that are shorter
abbrev ShorterHave : List ℕ → Type 0
ShorterHave bytes = (at : ℕ) (rest : List ℕ) → length rest < length bytes → HasTokens at rest

after_gap : (at n : ℕ) (bytes : List ℕ) → Passes bytes n → HasTokens (at + n) (drop n bytes) → HasTokens at bytes
after_gap at n bytes gap (Ok tokens, l) = (Ok tokens, (l.0, joined l.0 [] tokens (gap.passed at) l.1))
after_gap at n bytes gap (Err e, f) = (
  Err e,
  record {
    place = f.place;
    rest = f.rest;
    tokens = f.tokens;
    before = joined f.place f.rest f.tokens (gap.passed at) f.before;
    some = f.some;
    no_gap = f.no_gap;
    fault = f.fault;
  },
)

after_token : (at : ℕ) (bytes text later : List ℕ) (t : Token) → bytes ≡ text ++ later → IsTokenAt at text later t
    → HasTokens (at + length text) later → HasTokens at bytes
after_token at bytes text later t parts is (Ok tokens, l) = (Ok (t ∷ tokens), (l.0, token text later t tokens parts is refl l.1))
after_token at bytes text later t parts is (Err e, f) = (
  Err e,
  record {
    place = f.place;
    rest = f.rest;
    tokens = t ∷ f.tokens;
    before = token text later t f.tokens parts is refl f.before;
    some = f.some;
    no_gap = f.no_gap;
    fault = f.fault;
  },
)

-- where no gap begins
at_token : (at : ℕ) (bytes : List ℕ) → starts_gap bytes ≡ false → ShorterHave bytes → HasTokens at bytes
at_token at [] stops again = (Ok [], (at, here refl refl refl))
at_token at (b ∷ bytes) stops again = by (lexeme at (b ∷ bytes)) (lexeme_found at (b ∷ bytes))
  where
    by : (r : Result Token LexRefusal) → IsTokenOrFault at (b ∷ bytes) r → HasTokens at (b ∷ bytes)
    by (Ok t) (text, later, parts, is) =
        let some = spelled_some t.kind text is.spelled in
        let whole = ap length parts in
        let both = length-append text later in
        after_token at (b ∷ bytes) text later t parts is (again (at + length text) later (omega (arith, whole, both, some)))
    by (Err e) fault = (
      Err e,
      record {
        place = at;
        rest = b ∷ bytes;
        tokens = [];
        before = here refl refl refl;
        some = λ none. cc;
        no_gap = stops;
        fault = fault;
      },
    )

one_turn : (at : ℕ) (bytes : List ℕ) → ShorterHave bytes → HasTokens at bytes
one_turn at bytes again = by (gap bytes) refl
  where
    by : (n : ℕ) → gap bytes ≡ n → HasTokens at bytes
    by zero is = at_token at bytes ((gap_says bytes).0 is) again
    by (suc n) is =
        let passes : Passes bytes (suc n) = subst (Passes bytes) is (gap_passes bytes) in
        let within = (gap_says bytes).1 in
        let less = length-drop (suc n) bytes in
        after_gap at (suc n) bytes passes (again (at + suc n) (drop (suc n) bytes) (omega (arith, less, within, is)))

all_turns : (n at : ℕ) (bytes : List ℕ) → length bytes < n → HasTokens at bytes
all_turns zero at bytes less = absurd (omega (arith, less))
all_turns (suc n) at bytes less = one_turn at bytes (λ place rest shorter. all_turns n place rest (omega (arith, less, shorter)))

-- ---- the limit, and the byte order mark

module _ (limit : ℕ) (bytes : List ℕ) where
  within_limit : length bytes ≤ limit → (r : Result (List Token) LexRefusal) → IsTokensOrFault (mark_len bytes) (behind_mark bytes) r
      → IsTextOrFault limit bytes r
  within_limit fits (Ok tokens) h = (fits, h)
  within_limit fits (Err (TooLong at)) h = absurd h.fault
  within_limit fits (Err (BadByte at)) h = (fits, h)
  within_limit fits (Err (OpenString at)) h = (fits, h)
  within_limit fits (Err (IntOutOfRange at)) h = (fits, h)
  within_limit fits (Err NoMemory) h = absurd h.fault

  pub each_text : (r : Result (List Token) LexRefusal) × IsTextOrFault limit bytes r
  each_text = by (nat_lt limit (length bytes)) refl
    where
      by : (long : Bool) → nat_lt limit (length bytes) ≡ long → (r : Result (List Token) LexRefusal) × IsTextOrFault limit bytes r
      by true is = (Err (TooLong limit), (grind (arith, nat_tests, is), refl))
      by false is =
          let r = all_turns (suc (length (behind_mark bytes))) (mark_len bytes) (behind_mark bytes) (omega arith) in
          let fits : length bytes ≤ limit = grind (arith, nat_tests, is) in
          (r.0, within_limit fits r.0 r.1)
