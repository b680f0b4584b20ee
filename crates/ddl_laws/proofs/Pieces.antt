-- Pieces of a printed text, each with its tokens and what they spell.
use Rattle.std.proofs.Common.{◌≡◌, refl, sym, ap, subst, ◌∙◌, ℕ, Bool, true, false, List, [], ◌∷◌, ◌++◌, ◌+◌, length, arith, append_assoc, length-append}
use Rattle.std.specs.Prelude.{nat_eq}
use Rattle.std.specs.List.{flat_map}
use Rattle.std.proofs.lemmas.Bool.{eqb-true}
use Rattle.sd_lex.specs.declared.token.Token.{Token}
use Rattle.sd_lex.specs.declared.token.TokenKind.{TokenKind}
use Rattle.sd_lex.specs.declared.token.TokenKind.TheVariants as kinds
use Rattle.sd_lex.specs.Bytes.{is_blank}
use Rattle.sd_lex.specs.Lexing.{Spells, Ends, Lexes, blank, token, Spelling, spells_nothing, spells_plain, spells_escape}
use Rattle.grammar.specs.Grammar.{nothing, many, ◌>>=◌}
use Rattle.sd_ddl.specs.Written.{quoted_byte, quoted}

-- the text, before any bytes, is these tokens
abbrev pub Splits : ℕ → List ℕ → List Token → Type 0
Splits at text tokens = (place : ℕ) (rest : List ℕ) (after : ℕ) (later : List ℕ) (more : List Token) → after ≡ at + length text → Lexes place rest after later more
    → Lexes place rest at (text ++ later) (tokens ++ more)

-- the text at this place is tokens that spell a value with the property
pub record Prints {A : Type 0} (P : List Token → A → Type 0) (Q : A → Type 0) (at : ℕ) (text : List ℕ) : Type 0 where
  pub tokens : List Token
  pub value : A
  pub spelled : P tokens value
  pub is : Q value
  pub splits : Splits at text tokens

pub splits_nothing : (at : ℕ) → Splits at [] []
splits_nothing at place rest after later more e h = subst (λ n. Lexes place rest n later more) (e ∙ omega arith) h

pub splits_both : (at : ℕ) (text others : List ℕ) (tokens ts : List Token) → Splits at text tokens → Splits (at + length text) others ts → Splits at (text ++ others) (tokens ++ ts)
splits_both at text others tokens ts h k place rest after later more e last =
    let len : length (text ++ others) ≡ length text + length others = length-append text others in
    subst (λ bytes. Lexes place rest at bytes ((tokens ++ ts) ++ more)) (sym (append_assoc text others later))
    (subst (λ found. Lexes place rest at (text ++ (others ++ later)) found) (sym (append_assoc tokens ts more))
    (h place rest (at + length text) (others ++ later) (ts ++ more) refl (k place rest after later more (e ∙ omega (arith, len)) last)))

pub splits_blank : (at : ℕ) (b : ℕ) → is_blank b ≡ true → Splits at (b ∷ []) []
splits_blank at b is place rest after later more e h = blank b later refl is (subst (λ n. Lexes place rest n later more) e h)

-- a token whose text no later byte makes longer
pub splits_token : (at : ℕ) (text : List ℕ) (k : TokenKind) → Spells text k → ((later : List ℕ) → Ends k later)
    → Splits at text (record { kind = k; span = record { start = at; «end» = at + length text } } ∷ [])
splits_token at text k spelled ends place rest after later more e h =
    token text later (record { kind = k; span = record { start = at; «end» = at + length text } }) more refl
    (record { spelled = spelled; longest = ends later; start = refl; last = refl }) refl (subst (λ n. Lexes place rest n later more) e h)

-- a token and the byte behind it, which is a blank
pub splits_token_blank : (at : ℕ) (text : List ℕ) (k : TokenKind) (b : ℕ) → Spells text k → is_blank b ≡ true → ((later : List ℕ) → Ends k (b ∷ later))
    → Splits at (text ++ b ∷ []) (record { kind = k; span = record { start = at; «end» = at + length text } } ∷ [])
splits_token_blank at text k b spelled is ends place rest after later more e h =
    let len : length (text ++ b ∷ []) ≡ length text + 1 = length-append text (b ∷ []) in
    subst (λ bytes. Lexes place rest at bytes (record { kind = k; span = record { start = at; «end» = at + length text } } ∷ more)) (sym (append_assoc text (b ∷ []) later))
    (token text (b ∷ later) (record { kind = k; span = record { start = at; «end» = at + length text } }) more refl
    (record { spelled = spelled; longest = ends later; start = refl; last = refl }) refl
    (blank b later refl is (subst (λ n. Lexes place rest n later more) (e ∙ omega (arith, len)) h)))

pub prints_nothing : {A : Type 0} (Q : A → Type 0) (at : ℕ) (v : A) → Q v → Prints (nothing v) Q at []
prints_nothing Q at v q = record { tokens = []; value = v; spelled = (refl, refl); is = q; splits = splits_nothing at }

pub prints_then : {A B : Type 0} (P : List Token → A → Type 0) (R : A → List Token → B → Type 0) (Q : A → Type 0) (S : B → Type 0) (at : ℕ) (text others : List ℕ)
    → Prints P Q at text → ((v : A) → Q v → Prints (R v) S (at + length text) others) → Prints (P >>= R) S at (text ++ others)
prints_then P R Q S at text others first next =
    let then = next first.value first.is in record {
      tokens = first.tokens ++ then.tokens;
      value = then.value;
      spelled = (first.tokens, then.tokens, first.value, refl, first.spelled, then.spelled);
      is = then.is;
      splits = splits_both at text others first.tokens then.tokens first.splits then.splits;
    }

-- the same text, written otherwise
pub prints_as : {A : Type 0} (P : List Token → A → Type 0) (Q : A → Type 0) (at : ℕ) (text other : List ℕ) → text ≡ other → Prints P Q at text → Prints P Q at other
prints_as P Q at text other e h = subst (Prints P Q at) e h

-- blanks before
pub prints_behind : {A : Type 0} (P : List Token → A → Type 0) (Q : A → Type 0) (at : ℕ) (gap text : List ℕ) → Splits at gap [] → Prints P Q (at + length gap) text → Prints P Q at (gap ++ text)
prints_behind P Q at gap text g h = record {
  tokens = h.tokens;
  value = h.value;
  spelled = h.spelled;
  is = h.is;
  splits = splits_both at gap text [] h.tokens g h.splits;
}

-- each value with the property that belongs to its item
abbrev pub Matches : {X A : Type 0} → (X → A → Type 0) → List X → List A → Type 0
Matches Q [] [] = Unit {0}
Matches Q [] (v ∷ vs) = ⊥
Matches Q (x ∷ xs) [] = ⊥
Matches Q (x ∷ xs) (v ∷ vs) = Q x v × Matches Q xs vs

-- each item has the property
abbrev pub Holds : {X : Type 0} → (X → Type 0) → List X → Type 0
Holds W [] = Unit {0}
Holds W (x ∷ xs) = W x × Holds W xs

pub prints_many : {X A : Type 0} (P : List Token → A → Type 0) (Q : X → A → Type 0) (f : X → List ℕ) (W : X → Type 0) → ((x : X) (at : ℕ) → W x → Prints P (Q x) at (f x))
    → (xs : List X) (at : ℕ) → Holds W xs → Prints (many P) (Matches Q xs) at (flat_map f xs)
prints_many P Q f W each [] at h = record { tokens = []; value = []; spelled = refl; is = tt; splits = splits_nothing at }
prints_many P Q f W each (x ∷ xs) at h =
    let first = each x at h.0 in
    let rest = prints_many P Q f W each xs (at + length (f x)) h.1 in record {
      tokens = first.tokens ++ rest.tokens;
      value = first.value ∷ rest.value;
      spelled = (first.tokens, rest.tokens, refl, first.spelled, rest.spelled);
      is = (first.is, rest.is);
      splits = splits_both at (f x) (flat_map f xs) first.tokens rest.tokens first.splits rest.splits;
    }

pub holds_any : {X : Type 0} (xs : List X) → Holds (λ x. Unit {0}) xs
holds_any [] = tt
holds_any (x ∷ xs) = (tt, holds_any xs)

-- a text in quotes spells the text
byte_spelled : (b : ℕ) (raw text : List ℕ) → Spelling raw text → Spelling (quoted_byte b ++ raw) (b ∷ text)
byte_spelled b raw text h = by (nat_eq b 34) (nat_eq b 92) (nat_eq b 10) (nat_eq b 13) (nat_eq b 9) refl refl refl refl refl
  where
    by : (q s n r t : Bool) → nat_eq b 34 ≡ q → nat_eq b 92 ≡ s → nat_eq b 10 ≡ n → nat_eq b 13 ≡ r → nat_eq b 9 ≡ t → Spelling (quoted_byte b ++ raw) (b ∷ text)
    by true s n r t q e f g i = rw q (spells_escape 34 34 raw text refl (ap (λ c. c ∷ text) (eqb-true b 34 q)) refl h)
    by false true n r t q e f g i = rw (q, e) (spells_escape 92 92 raw text refl (ap (λ c. c ∷ text) (eqb-true b 92 e)) refl h)
    by false false true r t q e f g i = rw (q, e, f) (spells_escape 110 10 raw text refl (ap (λ c. c ∷ text) (eqb-true b 10 f)) refl h)
    by false false false true t q e f g i = rw (q, e, f, g) (spells_escape 114 13 raw text refl (ap (λ c. c ∷ text) (eqb-true b 13 g)) refl h)
    by false false false false true q e f g i = rw (q, e, f, g, i) (spells_escape 116 9 raw text refl (ap (λ c. c ∷ text) (eqb-true b 9 i)) refl h)
    by false false false false false q e f g i = rw (q, e, f, g, i) (spells_plain b raw text refl refl (rw (q, e) refl) h)

pub text_spelled : (s : List ℕ) → Spelling (flat_map quoted_byte s) s
text_spelled [] = spells_nothing refl refl
text_spelled (b ∷ s) = byte_spelled b (flat_map quoted_byte s) s (text_spelled s)

pub quoted_spelled : (s : List ℕ) → Spells (quoted s) (kinds.Quoted s)
quoted_spelled s = (flat_map quoted_byte s, refl, text_spelled s)
