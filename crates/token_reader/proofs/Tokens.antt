-- A text has one list of tokens, or one first fault.
use Rattle.std.proofs.Common.{◌≡◌, ◌⊎◌, inl, inr, ℕ, ◌+◌, ◌<◌, ◌≤◌, Bool, true, false, List, [], ◌∷◌, ◌++◌, length, drop, refl, sym, ap, subst, ◌∙◌, arith, Option, Some, None, Result, Ok, Err}
use Rattle.std.proofs.Common.{length-append}
use Rattle.std.specs.Prelude.{◌||◌, ◌&&◌, nat_eq}
use Rattle.std.proofs.lemmas.Bool.{eqb-true}
use Rattle.std.proofs.lemmas.Bool.Decides.{nat_tests}
use Rattle.sd_lex.specs.declared.refusal.LexRefusal.{LexRefusal}
use Rattle.sd_lex.specs.declared.refusal.LexRefusal.TheVariants.{TooLong, BadByte, OpenString, IntOutOfRange, NoMemory}
use Rattle.sd_lex.specs.declared.token.Token.{Token}
use Rattle.sd_lex.specs.Bytes.{is_blank}
use Rattle.sd_lex.specs.Reading.{lexeme}
use Rattle.sd_lex.specs.Lexing.{Lexes, here, blank, comment, token, IsTokenAt, IsTokensOrFault, IsTextOrFault, behind_mark, mark_len, starts_gap}
use Rattle.sd_lex.proofs.Lexemes.{lexeme_only}
use Rattle.sd_lex.proofs.Gaps.{un_blank, un_comment, un_token, spelled_some}
use Rattle.sd_lex.proofs.Fronts.{drop_front}
use Rattle.sd_lex.proofs.WholeText.{AtEnd}
use Rattle.token_reader.specs.Answers.{HasOneTokenList}

blank_is : (b : ℕ) → is_blank b ≡ true → (b ≡ 32) ⊎ ((b ≡ 9) ⊎ ((b ≡ 13) ⊎ (b ≡ 10)))
blank_is b e = grind (arith, nat_tests)

-- a byte that begins no token
no_token : (at k : ℕ) (rest : List ℕ) → ((c : ℕ) (more : List ℕ) → lexeme at (k ∷ c ∷ more) ≡ Err (BadByte at)) → lexeme at (k ∷ []) ≡ Err (BadByte at) → (t : Token) → Ok t ≡ lexeme at (k ∷ rest) → ⊥
no_token at k [] two one t e = cc
no_token at k (c ∷ more) two one t e = let f = two c more in cc

blank_no_token : (at b : ℕ) (rest : List ℕ) (t : Token) → (b ≡ 32) ⊎ ((b ≡ 9) ⊎ ((b ≡ 13) ⊎ (b ≡ 10))) → Ok t ≡ lexeme at (b ∷ rest) → ⊥
blank_no_token at b rest t (inl is) e = no_token at 32 rest (λ c more. refl) refl t (e ∙ ap (λ x. lexeme at (x ∷ rest)) is)
blank_no_token at b rest t (inr (inl is)) e = no_token at 9 rest (λ c more. refl) refl t (e ∙ ap (λ x. lexeme at (x ∷ rest)) is)
blank_no_token at b rest t (inr (inr (inl is))) e = no_token at 13 rest (λ c more. refl) refl t (e ∙ ap (λ x. lexeme at (x ∷ rest)) is)
blank_no_token at b rest t (inr (inr (inr is))) e = no_token at 10 rest (λ c more. refl) refl t (e ∙ ap (λ x. lexeme at (x ∷ rest)) is)

gap_is : (a b : Bool) → (a ≡ true → ⊥) → (b ≡ true → ⊥) → (a || b) ≡ false
gap_is true b not_a not_b = absurd (not_a refl)
gap_is false true not_a not_b = absurd (not_b refl)
gap_is false false not_a not_b = refl

both_true : (a b : Bool) → (a && b) ≡ true → (a ≡ true) × (b ≡ true)
both_true true true e = (refl, refl)
both_true true false e = absurd cc
both_true false b e = absurd cc

slashes_no_token : (at b c : ℕ) (rest : List ℕ) (t : Token) → (nat_eq b 47 && nat_eq c 47) ≡ true → Ok t ≡ lexeme at (b ∷ c ∷ rest) → ⊥
slashes_no_token at b c rest t is e =
    let both = both_true (nat_eq b 47) (nat_eq c 47) is in
    let first : b ≡ 47 = eqb-true b 47 both.0 in
    let second : c ≡ 47 = eqb-true c 47 both.1 in
    let there : Ok t ≡ lexeme at (47 ∷ 47 ∷ rest) = e ∙ ap (λ x. lexeme at (x ∷ c ∷ rest)) first ∙ ap (λ x. lexeme at (47 ∷ x ∷ rest)) second in
    let none : lexeme at (47 ∷ 47 ∷ rest) ≡ Err (BadByte at) = refl in
    cc

-- where a token stands, no gap begins
no_gap : (at : ℕ) (bytes : List ℕ) (t : Token) → Ok t ≡ lexeme at bytes → starts_gap bytes ≡ false
no_gap at [] t e = refl
no_gap at (b ∷ []) t e = by (is_blank b) (λ is. blank_no_token at b [] t (blank_is b is) e)
  where
    by : (x : Bool) → (x ≡ true → ⊥) → x ≡ false
    by true never = absurd (never refl)
    by false never = refl
no_gap at (b ∷ c ∷ rest) t e = gap_is (is_blank b) (nat_eq b 47 && nat_eq c 47) (λ is. blank_no_token at b (c ∷ rest) t (blank_is b is) e) (λ is. slashes_no_token at b c rest t is e)

-- a token doesn't stand where the tokens end
not_ended : (at : ℕ) (bytes text later : List ℕ) (t : Token) (o : Option LexRefusal) → bytes ≡ text ++ later → IsTokenAt at text later t → AtEnd at bytes o → ⊥
not_ended at bytes text later t None parts is ends = let some : 0 < length text = spelled_some t.kind text is.spelled in let none : length (text ++ later) ≡ 0 = ap length (sym parts ∙ ends) in omega (arith, length-append text later)
not_ended at bytes text later t (Some f) parts is ends =
    let one : Ok t ≡ lexeme at bytes = lexeme_only at bytes (Ok t) (text, later, parts, is) in
    let other : Err f ≡ lexeme at bytes = lexeme_only at bytes (Err f) ends.1 in
    cc

-- there is one end at a place
one_end : (at : ℕ) (bytes : List ℕ) (o p : Option LexRefusal) → AtEnd at bytes o → AtEnd at bytes p → o ≡ p
one_end at bytes None None a b = refl
one_end at bytes None (Some f) a b = absurd (b.0 a)
one_end at bytes (Some e) None a b = absurd (a.0 b)
one_end at bytes (Some e) (Some f) a b =
    let one : Err e ≡ lexeme at bytes = lexeme_only at bytes (Err e) a.1 in
    let other : Err f ≡ lexeme at bytes = lexeme_only at bytes (Err f) b.1 in
    cc

at_place : (at place : ℕ) (bytes stop : List ℕ) (o : Option LexRefusal) → bytes ≡ stop → at ≡ place → AtEnd place stop o → AtEnd at bytes o
at_place at place bytes stop o e z ends = subst (λ x. AtEnd x bytes o) (sym z) (subst (λ x. AtEnd place x o) (sym e) ends)

pub one_lexing : {place place2 : ℕ} {stop stop2 : List ℕ} {at : ℕ} {bytes : List ℕ} {tokens tokens2 : List Token} (o p : Option LexRefusal)
    → starts_gap stop ≡ false → AtEnd place stop o → starts_gap stop2 ≡ false → AtEnd place2 stop2 p
    → Lexes place stop at bytes tokens → Lexes place2 stop2 at bytes tokens2 → (tokens ≡ tokens2) × (o ≡ p)
one_lexing {place} {place2} {stop} {stop2} {at} {bytes} {tokens} {tokens2} o p sane ends sane2 ends2 (here e f z) l = by (un_token l (ap starts_gap e ∙ sane))
  where
    by : ((bytes ≡ stop2) × (tokens2 ≡ []) × (at ≡ place2))
        ⊎ ((x : List ℕ) × (y : List ℕ) × (u : Token) × (others : List Token) × (bytes ≡ x ++ y) × IsTokenAt at x y u × (tokens2 ≡ u ∷ others) × Lexes place2 stop2 (at + length x) y others)
        → (tokens ≡ tokens2) × (o ≡ p)
    by (inl h) = (f ∙ sym h.1, one_end at bytes o p (at_place at place bytes stop o e z ends) (at_place at place2 bytes stop2 p h.0 h.2 ends2))
    by (inr (x, y, u, others, parts, is, first, on)) = absurd (not_ended at bytes x y u o parts is (at_place at place bytes stop o e z ends))
one_lexing o p sane ends sane2 ends2 (blank b later e f g) l = one_lexing o p sane ends sane2 ends2 g (un_blank sane2 l b later e f)
one_lexing o p sane ends sane2 ends2 (comment line later e f g k) l = one_lexing o p sane ends sane2 ends2 k (un_comment sane2 l line later e f g)
one_lexing {place} {place2} {stop} {stop2} {at} {bytes} {tokens} {tokens2} o p sane ends sane2 ends2 (token text later t others e f g k) l =
    by (λ others2 h. one_lexing o p sane ends sane2 ends2 k h) (un_token l (no_gap at bytes t (lexeme_only at bytes (Ok t) (text, later, e, f))))
  where
    by : ((others2 : List Token) → Lexes place2 stop2 (at + length text) later others2 → (others ≡ others2) × (o ≡ p))
        → ((bytes ≡ stop2) × (tokens2 ≡ []) × (at ≡ place2))
        ⊎ ((x : List ℕ) × (y : List ℕ) × (u : Token) × (others2 : List Token) × (bytes ≡ x ++ y) × IsTokenAt at x y u × (tokens2 ≡ u ∷ others2) × Lexes place2 stop2 (at + length x) y others2)
        → (tokens ≡ tokens2) × (o ≡ p)
    by again (inl h) = absurd (not_ended at bytes text later t p e f (at_place at place2 bytes stop2 p h.0 h.2 ends2))
    by again (inr (x, y, u, others2, parts, is, first, on)) =
        let other : Ok u ≡ lexeme at bytes = lexeme_only at bytes (Ok u) (x, y, parts, is) in
        let mine : Ok t ≡ lexeme at bytes = lexeme_only at bytes (Ok t) (text, later, e, f) in
        let same : t ≡ u = cc in
        let last : t.span.«end» ≡ u.span.«end» = ap (λ x. x.span.«end») same in
        let len : length text ≡ length x = omega (arith, last, f.last, is.last) in
        let tail : later ≡ y = sym (drop_front text later) ∙ ap (drop (length text)) (sym e ∙ parts) ∙ ap (λ n. drop n (x ++ y)) len ∙ drop_front x y in
        let from : Lexes place2 stop2 (at + length text) later others2 = subst (λ z. Lexes place2 stop2 (at + length text) z others2) (sym tail) (subst (λ n. Lexes place2 stop2 (at + n) y others2) (sym len) on) in
        let rest = again others2 from in
        (g ∙ ap (λ z. t ∷ z) rest.0 ∙ ap (λ z. z ∷ others2) same ∙ sym first, rest.1)

one_tokens : (at : ℕ) (bytes : List ℕ) (r s : Result (List Token) LexRefusal) → IsTokensOrFault at bytes r → IsTokensOrFault at bytes s → r ≡ s
one_tokens at bytes (Ok a) (Ok b) h k = ap Ok (one_lexing None None refl refl refl refl h.1 k.1).0
one_tokens at bytes (Ok a) (Err f) h k = let both : None ≡ Some f = (one_lexing None (Some f) refl refl k.no_gap (k.some, k.fault) h.1 k.before).1 in absurd cc
one_tokens at bytes (Err e) (Ok b) h k = let both : Some e ≡ None = (one_lexing (Some e) None h.no_gap (h.some, h.fault) refl refl h.before k.1).1 in absurd cc
one_tokens at bytes (Err e) (Err f) h k = let both : Some e ≡ Some f = (one_lexing (Some e) (Some f) h.no_gap (h.some, h.fault) k.no_gap (k.some, k.fault) h.before k.before).1 in cc

-- the answers to a text within the limit, and beyond it
abbrev IsAnswer : ℕ → List ℕ → Result (List Token) LexRefusal → Type 0
IsAnswer limit bytes r = ((limit < length bytes) × (r ≡ Err (TooLong limit))) ⊎ ((length bytes ≤ limit) × IsTokensOrFault (mark_len bytes) (behind_mark bytes) r)

answer_of : (limit : ℕ) (bytes : List ℕ) (r : Result (List Token) LexRefusal) → IsTextOrFault limit bytes r → IsAnswer limit bytes r
answer_of limit bytes (Ok a) h = inr h
answer_of limit bytes (Err (TooLong p)) h = inl (h.0, ap (λ x. Err (TooLong x)) h.1)
answer_of limit bytes (Err (BadByte p)) h = inr h
answer_of limit bytes (Err (OpenString p)) h = inr h
answer_of limit bytes (Err (IntOutOfRange p)) h = inr h
answer_of limit bytes (Err NoMemory) h = inr h

by_answers : (limit : ℕ) (bytes : List ℕ) (r s : Result (List Token) LexRefusal) → IsAnswer limit bytes r → IsAnswer limit bytes s → r ≡ s
by_answers limit bytes r s (inl h) (inl k) = h.1 ∙ sym k.1
by_answers limit bytes r s (inl h) (inr k) = absurd (omega (arith, h.0, k.0))
by_answers limit bytes r s (inr h) (inl k) = absurd (omega (arith, h.0, k.0))
by_answers limit bytes r s (inr h) (inr k) = one_tokens (mark_len bytes) (behind_mark bytes) r s h.1 k.1

pub one_token_list : (limit : ℕ) (bytes : List ℕ) → HasOneTokenList limit bytes
one_token_list limit bytes r s h k = by_answers limit bytes r s (answer_of limit bytes r h) (answer_of limit bytes s k)
