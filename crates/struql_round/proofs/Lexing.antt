-- Texts that split into tokens, piece by piece.
use Rattle.std.proofs.Common.{◌≡◌, ℕ, ◌+◌, true, List, [], ◌∷◌, ◌++◌, length, refl, sym, ap, subst, ◌∙◌, arith, append_assoc, length-append}
use Rattle.std.proofs.lemmas.List.{append-nil}
use Rattle.sd_lex.specs.declared.token.Token.{Token}
use Rattle.sd_lex.specs.declared.token.TokenKind.{TokenKind}
use Rattle.sd_lex.specs.declared.token.TokenKind.TheVariants as kinds
use Rattle.sd_lex.specs.declared.token.Sign.{Sign}
use Rattle.sd_lex.specs.declared.token.Sign.TheVariants as signs
use Rattle.sd_lex.specs.Bytes.{is_blank, is_name_byte, is_digit, is_equals, Stops}
use Rattle.sd_lex.specs.Lexing.{Spells, Ends, SignEnds, Lexes, blank, token, sign_text}
use Rattle.token_reader.specs.Terminals.{is_sign, is_sign_kind}

-- The text, before bytes that this may be said of, is these tokens.
abbrev pub Splits : (List ℕ → Type 0) → ℕ → List ℕ → List Token → Type 0
Splits W at text tokens = (place : ℕ) (rest : List ℕ) (after : ℕ) (later : List ℕ) (more : List Token) → W later → after ≡ at + length text → Lexes place rest after later more
    → Lexes place rest at (text ++ later) (tokens ++ more)

-- the text at this place, before such bytes, is tokens of which this may be said
pub record Lexed (S : List Token → Type 0) (W : List ℕ → Type 0) (at : ℕ) (text : List ℕ) : Type 0 where
  pub tokens : List Token
  pub shows : S tokens
  pub splits : Splits W at text tokens

abbrev pub Lexing : (List Token → Type 0) → (List ℕ → Type 0) → List ℕ → Type 0
Lexing S W text = (at : ℕ) → Lexed S W at text

-- before any bytes, and before bytes that make no token longer
abbrev pub Any : List ℕ → Type 0
Any later = Unit {0}

abbrev pub Safe : List ℕ → Type 0
Safe later = Stops is_name_byte later × Stops is_digit later × Stops is_equals later

abbrev pub Nil : List Token → Type 0
Nil tokens = tokens ≡ []

abbrev pub Cons : (Token → Type 0) → (List Token → Type 0) → List Token → Type 0
Cons p T tokens = (t : Token) × (rest : List Token) × (tokens ≡ t ∷ rest) × p t × T rest

abbrev pub Both : (List Token → Type 0) → (List Token → Type 0) → List Token → Type 0
Both S T tokens = (front : List Token) × (back : List Token) × (tokens ≡ front ++ back) × S front × T back

pub shown : {S U : List Token → Type 0} {W : List ℕ → Type 0} {text : List ℕ} → ((tokens : List Token) → S tokens → U tokens) → Lexing S W text → Lexing U W text
shown f h at = let l = h at in record { tokens = l.tokens; shows = f l.tokens l.shows; splits = l.splits }

pub before : {S : List Token → Type 0} {V W : List ℕ → Type 0} {text : List ℕ} → ((later : List ℕ) → W later → V later) → Lexing S V text → Lexing S W text
before f h at = let l = h at in record { tokens = l.tokens; shows = l.shows; splits = λ place rest after later more w. l.splits place rest after later more (f later w) }

pub same_text : {S : List Token → Type 0} {W : List ℕ → Type 0} {text : List ℕ} (other : List ℕ) → text ≡ other → Lexing S W text → Lexing S W other
same_text {S} {W} {text} other e h = subst (λ x. Lexing S W x) e h

pub nothing_more : {W : List ℕ → Type 0} → Lexing Nil W []
nothing_more {W} at = record { tokens = []; shows = refl; splits = λ place rest after later more w e h. subst (λ n. Lexes place rest n later more) (e ∙ omega arith) h }

pub gap : {S : List Token → Type 0} {W : List ℕ → Type 0} {text : List ℕ} (b : ℕ) → is_blank b ≡ true → Lexing S W text → Lexing S W (b ∷ text)
gap {S} {W} {text} b is h at = let l = h (at + 1) in record {
  tokens = l.tokens;
  shows = l.shows;
  splits = λ place rest after later more w e k. blank b (text ++ later) refl is (l.splits place rest after later more w (e ∙ omega arith) k);
}

pub both : {S T : List Token → Type 0} {V W : List ℕ → Type 0} {text others : List ℕ} → Lexing S V text → ((later : List ℕ) → W later → V (others ++ later)) → Lexing T W others → Lexing (Both S T) W (text ++ others)
both {S} {T} {V} {W} {text} {others} h f k at =
    let l = h at in
    let m = k (at + length text) in record {
      tokens = l.tokens ++ m.tokens;
      shows = (l.tokens, m.tokens, refl, l.shows, m.shows);
      splits = λ place rest after later more w e last.
          (let len : length (text ++ others) ≡ length text + length others = length-append text others in
          subst (λ bytes. Lexes place rest at bytes ((l.tokens ++ m.tokens) ++ more)) (sym (append_assoc text others later))
          (subst (λ found. Lexes place rest at (text ++ (others ++ later)) found) (sym (append_assoc l.tokens m.tokens more))
          (l.splits place rest (at + length text) (others ++ later) (m.tokens ++ more) (f later w) refl (m.splits place rest after later more w (e ∙ omega (arith, len)) last))));
    }

abbrev made : TokenKind → ℕ → List ℕ → Token
made k at text = record { kind = k; span = record { start = at; «end» = at + length text } }

-- a token, and what follows
pub token_then : {T : List Token → Type 0} {W : List ℕ → Type 0} {others : List ℕ} (k : TokenKind) (text : List ℕ) → Spells text k → ((later : List ℕ) → W later → Ends k (others ++ later)) → Lexing T W others
    → Lexing (Cons (λ t. t.kind ≡ k) T) W (text ++ others)
token_then {T} {W} {others} k text spelled ends h at =
    let l = h (at + length text) in record {
      tokens = made k at text ∷ l.tokens;
      shows = (made k at text, l.tokens, refl, refl, l.shows);
      splits = λ place rest after later more w e last.
          (let len : length (text ++ others) ≡ length text + length others = length-append text others in
          subst (λ bytes. Lexes place rest at bytes (made k at text ∷ (l.tokens ++ more))) (sym (append_assoc text others later))
          (token text (others ++ later) (made k at text) (l.tokens ++ more) refl
          (record { spelled = spelled; longest = ends later w; start = refl; last = refl }) refl
          (l.splits place rest after later more w (e ∙ omega (arith, len)) last)));
    }

pub cons_shown : {p q : Token → Type 0} {T : List Token → Type 0} {W : List ℕ → Type 0} {text : List ℕ} → ((t : Token) → p t → q t) → Lexing (Cons p T) W text → Lexing (Cons q T) W text
cons_shown f h = shown (λ tokens c. (c.0, c.1, c.2, f c.0 c.3, c.4)) h

pub token_last : {W : List ℕ → Type 0} (k : TokenKind) (text : List ℕ) → Spells text k → ((later : List ℕ) → W later → Ends k later) → Lexing (Cons (λ t. t.kind ≡ k) Nil) W text
token_last {W} k text spelled ends = same_text text (append-nil text) (token_then {W = W} {others = []} k text spelled ends nothing_more)

same_sign : (s : Sign) → is_sign_kind s (kinds.Sign s) ≡ true
same_sign signs.Arrow = refl
same_sign signs.OpenParen = refl
same_sign signs.CloseParen = refl
same_sign signs.OpenBrace = refl
same_sign signs.CloseBrace = refl
same_sign signs.Comma = refl
same_sign signs.Dot = refl
same_sign signs.Bar = refl
same_sign signs.Star = refl
same_sign signs.Amp = refl
same_sign signs.Eq = refl
same_sign signs.Ne = refl
same_sign signs.Lt = refl
same_sign signs.Le = refl
same_sign signs.Gt = refl
same_sign signs.Ge = refl

sign_shown : (s : Sign) (t : Token) → t.kind ≡ kinds.Sign s → is_sign s t ≡ true
sign_shown s t e = ap (is_sign_kind s) e ∙ same_sign s

-- a sign, and what follows
pub sign_then : {T : List Token → Type 0} {W : List ℕ → Type 0} {others : List ℕ} (s : Sign) → ((later : List ℕ) → W later → SignEnds s (others ++ later)) → Lexing T W others
    → Lexing (Cons (λ t. is_sign s t ≡ true) T) W (sign_text s ++ others)
sign_then s ends h = cons_shown (sign_shown s) (token_then (kinds.Sign s) (sign_text s) refl ends h)

pub sign_last : {W : List ℕ → Type 0} (s : Sign) → ((later : List ℕ) → W later → SignEnds s later) → Lexing (Cons (λ t. is_sign s t ≡ true) Nil) W (sign_text s)
sign_last s ends = cons_shown (sign_shown s) (token_last (kinds.Sign s) (sign_text s) refl ends)
