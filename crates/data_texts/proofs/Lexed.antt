-- The tokens of a text, or its first fault, as a function.
use Rattle.std.proofs.Common.{◌≡◌, ℕ, zero, suc, ◌+◌, ◌-◌, ◌<◌, ◌≤◌, Bool, true, false, List, [], ◌∷◌, ◌++◌, length, drop, refl, sym, ap, subst, ◌∙◌, arith, length-append, Result, Ok, Err}
use Rattle.std.specs.Prelude.{nat_le}
use Rattle.std.proofs.lemmas.Bool.Decides.{nat_tests}
use Rattle.std.proofs.lemmas.List.{length-drop}
use Rattle.sd_lex.specs.declared.refusal.LexRefusal.{LexRefusal}
use Rattle.sd_lex.specs.declared.refusal.LexRefusal.TheVariants.{TooLong, BadByte, OpenString, IntOutOfRange, NoMemory}
use Rattle.sd_lex.specs.declared.token.Token.{Token}
use Rattle.sd_lex.specs.Reading.{gap, lexeme}
use Rattle.sd_lex.specs.Lexing.{IsFaultAt, IsTokenOrFault, IsTokensOrFault, IsTextOrFault, behind_mark, mark_len, starts_gap, GivesTokens, UnlessNoMemory}
use Rattle.sd_lex.proofs.Gaps.{Behind, behind_itself, behind_gap, gap_says, spelled_some}
use Rattle.sd_lex.proofs.Lexemes.{lexeme_found, lexeme_only}
use Rattle.sd_lex.proofs.WholeText.{Reached, first_reached, next_reached, all_says, refusal_says, text_says}

-- what holds of an answer that is not out of memory
unless : {A : Type 0} (P : Result A LexRefusal → Type 0) (r : Result A LexRefusal) → P r → UnlessNoMemory P r
unless P (Ok x) h = h
unless P (Err (TooLong p)) h = h
unless P (Err (BadByte p)) h = h
unless P (Err (OpenString p)) h = h
unless P (Err (IntOutOfRange p)) h = h
unless P (Err NoMemory) h = tt

pub plain : {A : Type 0} (P : Result A LexRefusal → Type 0) (r : Result A LexRefusal) → UnlessNoMemory P r → (r ≡ Err NoMemory → ⊥) → P r
plain P (Ok x) h some = h
plain P (Err (TooLong p)) h some = h
plain P (Err (BadByte p)) h some = h
plain P (Err (OpenString p)) h some = h
plain P (Err (IntOutOfRange p)) h some = h
plain P (Err NoMemory) h some = absurd (some refl)

same_answer : {A : Type 0} (r s : Result A LexRefusal) → s ≡ r → GivesTokens r s
same_answer r (Ok x) e = e
same_answer r (Err (TooLong p)) e = e
same_answer r (Err (BadByte p)) e = e
same_answer r (Err (OpenString p)) e = e
same_answer r (Err (IntOutOfRange p)) e = e
same_answer r (Err NoMemory) e = tt

-- the bytes behind all blanks and comments at the front
record Skipped (whole : List ℕ) : Type 0 where
  after : List ℕ
  behind : Behind whole after
  stops : starts_gap after ≡ false

none_left : (whole rest : List ℕ) → length rest ≤ 0 → Behind whole rest → (n : ℕ) → gap rest ≡ n → Skipped whole
none_left whole rest fits behind zero is = record { after = rest; behind = behind; stops = (gap_says rest).0 is }
none_left whole rest fits behind (suc n) is = absurd (omega (arith, (gap_says rest).1, is, fits))

one_gap : (fuel : ℕ) (whole rest : List ℕ) → length rest ≤ suc fuel → Behind whole rest → ((next : List ℕ) → length next ≤ fuel → Behind whole next → Skipped whole)
    → (n : ℕ) → gap rest ≡ n → Skipped whole
one_gap fuel whole rest fits behind later zero is = record { after = rest; behind = behind; stops = (gap_says rest).0 is }
one_gap fuel whole rest fits behind later (suc n) is =
    later (drop (suc n) rest) (omega (arith, length-drop (suc n) rest, (gap_says rest).1, is, fits)) (behind_gap whole rest (suc n) (sym is) behind)

skip : (fuel : ℕ) (whole rest : List ℕ) → length rest ≤ fuel → Behind whole rest → Skipped whole
skip zero whole rest fits behind = none_left whole rest fits behind (gap rest) refl
skip (suc fuel) whole rest fits behind = one_gap fuel whole rest fits behind (λ next less reached. skip fuel whole next less reached) (gap rest) refl

skipped : (whole : List ℕ) → Skipped whole
skipped whole = skip (length whole) whole whole (omega arith) (behind_itself whole)

-- all tokens from a place on, or the first fault
abbrev pub Found : ℕ → List ℕ → Type 0
Found start bytes = (r : Result (List Token) LexRefusal) × IsTokensOrFault start bytes r

unique : (at : ℕ) (rest : List ℕ) (r s : Result Token LexRefusal) → lexeme at rest ≡ r → IsTokenOrFault at rest s → GivesTokens s r
unique at rest r s is h = same_answer s r (sym is ∙ sym (lexeme_only at rest s h))

stopped : (start : ℕ) (bytes : List ℕ) (at : ℕ) (rest : List ℕ) (tokens : List Token) (e : LexRefusal) → Reached start bytes at rest tokens → (rest ≡ [] → ⊥) → lexeme at rest ≡ Err e → Found start bytes
stopped start bytes at rest tokens e reached some is =
    let fault : IsFaultAt at rest e = subst (IsTokenOrFault at rest) is (lexeme_found at rest) in
    let says = refusal_says start bytes at rest tokens e reached some (unless (IsTokenOrFault at rest) (Err e) fault) (λ s h. unique at rest (Err e) s is h) in
    (Err e, plain (IsTokensOrFault start bytes) (Err e) says.0 (λ same. none e fault same))
  where
    none : (e : LexRefusal) → IsFaultAt at rest e → ◌≡◌ {A = Result (List Token) LexRefusal} (Err e) (Err NoMemory) → ⊥
    none (TooLong p) fault same = absurd cc
    none (BadByte p) fault same = absurd cc
    none (OpenString p) fault same = absurd cc
    none (IntOutOfRange p) fault same = absurd cc
    none NoMemory fault same = fault

one_lexeme : (fuel : ℕ) (start : ℕ) (bytes : List ℕ) (at : ℕ) (rest : List ℕ) (tokens : List Token) → length rest ≤ suc fuel → (rest ≡ [] → ⊥) → Reached start bytes at rest tokens
    → ((next : ℕ) (after : List ℕ) (more : List Token) → length after ≤ fuel → Reached start bytes next after more → Found start bytes)
    → (r : Result Token LexRefusal) → lexeme at rest ≡ r → Found start bytes
one_lexeme fuel start bytes at rest tokens fits some reached later_on (Err e) is = stopped start bytes at rest tokens e reached some is
one_lexeme fuel start bytes at rest tokens fits some reached later_on (Ok t) is =
    let found : IsTokenOrFault at rest (Ok t) = subst (IsTokenOrFault at rest) is (lexeme_found at rest) in
    let text = found.0 in
    let later = found.1 in
    let total : length rest ≡ length text + length later = ap length found.2 ∙ length-append text later in
    let behind = skipped later in
    later_on (t.span.«end» + (length later - length behind.after)) behind.after (tokens ++ t ∷ [])
    (omega (arith, total, fits, behind.behind.within, spelled_some t.kind text found.3.spelled))
    (next_reached start bytes at rest tokens t text later behind.after (t.span.«end» + (length later - length behind.after)) reached some found.2 found.3
    (λ s h. unique at rest (Ok t) s is h) behind.behind behind.stops refl)

lexed_on : (fuel : ℕ) (start : ℕ) (bytes : List ℕ) (at : ℕ) (rest : List ℕ) (tokens : List Token) → length rest ≤ fuel → Reached start bytes at rest tokens → Found start bytes
lexed_on fuel start bytes at [] tokens fits reached = (Ok tokens, (all_says start bytes at [] tokens reached refl).0)
lexed_on zero start bytes at (b ∷ rest) tokens fits reached = absurd (omega (arith, fits))
lexed_on (suc fuel) start bytes at (b ∷ rest) tokens fits reached =
    one_lexeme fuel start bytes at (b ∷ rest) tokens fits (λ none. cc) reached (λ next after more less now. lexed_on fuel start bytes next after more less now) (lexeme at (b ∷ rest)) refl

pub lexed : (start : ℕ) (bytes : List ℕ) → Found start bytes
lexed start bytes =
    let behind = skipped bytes in
    lexed_on (length behind.after) start bytes (start + (length bytes - length behind.after)) behind.after [] (omega arith)
    (first_reached start bytes behind.after (start + (length bytes - length behind.after)) refl behind.stops behind.behind)

-- what a whole text is
pub lexed_text : (limit : ℕ) (bytes : List ℕ) → (r : Result (List Token) LexRefusal) × IsTextOrFault limit bytes r
lexed_text limit bytes = by (nat_le (length bytes) limit) refl
  where
    some : (r : Result (List Token) LexRefusal) → IsTokensOrFault (mark_len bytes) (behind_mark bytes) r → r ≡ Err NoMemory → ⊥
    some (Ok tokens) h same = absurd cc
    some (Err (TooLong p)) h same = absurd cc
    some (Err (BadByte p)) h same = absurd cc
    some (Err (OpenString p)) h same = absurd cc
    some (Err (IntOutOfRange p)) h same = absurd cc
    some (Err NoMemory) h same = h.fault

    by : (fits : Bool) → nat_le (length bytes) limit ≡ fits → (r : Result (List Token) LexRefusal) × IsTextOrFault limit bytes r
    by true is =
        let within : length bytes ≤ limit = grind (arith, nat_tests) in
        let found = lexed (mark_len bytes) (behind_mark bytes) in
        (found.0, plain (IsTextOrFault limit bytes) found.0 (text_says limit bytes found.0 within (unless (IsTokensOrFault (mark_len bytes) (behind_mark bytes)) found.0 found.1)) (some found.0 found.1))
    by false is = let over : limit < length bytes = grind (arith, nat_tests) in (Err (TooLong limit), (over, refl))
