-- Parts for single bytes, names, keys, digits and delimited texts.
use Rattle.std.proofs.Common.{◌≡◌, ℕ, Bool, true, false, List, Some, None, refl, sym, subst, arith}
use Rattle.std.specs.Prelude.{map, nat_eq, ◌||◌, if◌then◌else◌}
use Rattle.std.proofs.lemmas.Bool.{eqb-true, eqb-false}
use Rattle.std.proofs.lemmas.Bool.Decides.{nat_tests}
use Rattle.grammar.specs.Grammar.{one}
use Rattle.grammar.specs.Reading.{Outcome, and_then, take_one}
use Rattle.grammar.proofs.Laws.{Always, Stops}
use Rattle.grammar.proofs.Parts.{Opens, opens_one, opens_then}
use Rattle.bibtex_laws.proofs.Parts.{Part, ◌>>=◌, one_part, weaken_part}
use Rattle.bibtex_spec.specs.Bytes.{is_blank, is_letter, is_digit, is_name_byte, is_key_byte, lower, begins_name}
use Rattle.bibtex_spec.specs.Macros.{MacroTexts}
use Rattle.bibtex_spec.specs.Reading.{spaced as read_spaced, same_byte, closing, read_mark, read_open, read_name, read_written, read_key, enclosed as read_up_to}
use Rattle.bibtex_laws.specs.Grammar.{strict, free, mark, opening, name, written, key, digits, delimited}
use Rattle.bibtex_laws.specs.Limits.{IsByte, IsLimit, none}
use Rattle.bibtex_laws.proofs.Words.{Clear, read_word, mapped_word_part, spaced_part}
use Rattle.bibtex_laws.proofs.Enclosed.{enclosed_part}

-- blanks are four bytes

one_of_four : (P : ℕ → Type 0) → P 32 → P 9 → P 13 → P 10 → (b : ℕ) (p q r s : Bool) → nat_eq b 32 ≡ p → nat_eq b 9 ≡ q → nat_eq b 13 ≡ r → nat_eq b 10 ≡ s → (((p || q) || r) || s) ≡ true → P b
one_of_four P a c d e b true q r s h1 h2 h3 h4 is = subst P (sym (eqb-true b 32 h1)) a
one_of_four P a c d e b false true r s h1 h2 h3 h4 is = subst P (sym (eqb-true b 9 h2)) c
one_of_four P a c d e b false false true s h1 h2 h3 h4 is = subst P (sym (eqb-true b 13 h3)) d
one_of_four P a c d e b false false false true h1 h2 h3 h4 is = subst P (sym (eqb-true b 10 h4)) e
one_of_four P a c d e b false false false false h1 h2 h3 h4 is = absurd cc

each_blank : (P : ℕ → Type 0) → P 32 → P 9 → P 13 → P 10 → (b : ℕ) → is_blank b ≡ true → P b
each_blank P a c d e b is = one_of_four P a c d e b (nat_eq b 32) (nat_eq b 9) (nat_eq b 13) (nat_eq b 10) refl refl refl refl is

abbrev pub Apart : (ℕ → Bool) → Type 0
Apart belongs = (b : ℕ) → is_blank b ≡ true → belongs b ≡ false

pub apart : (belongs : ℕ → Bool) → belongs 32 ≡ false → belongs 9 ≡ false → belongs 13 ≡ false → belongs 10 ≡ false → Apart belongs
apart belongs a c d e = each_blank (λ b. belongs b ≡ false) a c d e

pub not_blank : (belongs : ℕ → Bool) → Apart belongs → (b : ℕ) → belongs b ≡ true → is_blank b ≡ false
not_blank belongs away b is = by (is_blank b) refl
  where
    by : (p : Bool) → is_blank b ≡ p → is_blank b ≡ false
    by true blank = let not : belongs b ≡ false = away b blank in absurd cc
    by false blank = blank

pub name_apart : (wide : Bool) → Apart (is_name_byte wide)
name_apart wide = apart (is_name_byte wide) refl refl refl refl

pub begin_apart : (wide : Bool) → Apart (begins_name wide)
begin_apart wide = apart (begins_name wide) refl refl refl refl

pub key_apart : Apart is_key_byte
key_apart = apart is_key_byte refl refl refl refl

pub digit_apart : Apart is_digit
digit_apart = apart is_digit refl refl refl refl

pub letter_apart : Apart is_letter
letter_apart = apart is_letter refl refl refl refl

pub begins_in_name : (wide : Bool) (b : ℕ) → begins_name wide b ≡ true → is_name_byte wide b ≡ true
begins_in_name true b is = grind (arith, nat_tests)
begins_in_name false b is = grind (arith, nat_tests)

or_digit : (p q r : Bool) → q ≡ true → ((p || q) || r) ≡ true
or_digit true q r is = refl
or_digit false q r is = rw is refl

-- single bytes

pub same_byte_is : (m b v : ℕ) → same_byte m b ≡ Some v → (b ≡ m) × (b ≡ v)
same_byte_is m b v = by (nat_eq b m) refl
  where
    by : (p : Bool) → nat_eq b m ≡ p → (if p then Some b else None) ≡ Some v → (b ≡ m) × (b ≡ v)
    by true is e = (eqb-true b m is, cc)
    by false is e = absurd cc

same_itself : (m : ℕ) → same_byte m m ≡ Some m
same_itself m = by (nat_eq m m) refl
  where
    by : (p : Bool) → nat_eq m m ≡ p → (if p then Some m else None) ≡ Some m
    by true is = refl
    by false is = absurd (eqb-false m m is refl)

abbrev pub digits_reader : List ℕ → Outcome ℕ (List ℕ)
digits_reader = read_spaced (read_word is_digit is_digit (λ x. x) (λ b is. is))

module _ {Why : List ℕ → (ℕ → Bool) → Type 0} where
  pub byte_part : (m : ℕ) → IsByte m → Part IsByte Why (one (same_byte m)) (one (same_byte m)) Always (take_one true (same_byte m))
  byte_part m real = one_part (same_byte m) m m (same_itself m) real

  pub mark_part : (m : ℕ) → IsByte m → Part IsByte Why (mark m) (mark m) (Clear none) (read_mark m)
  unfolding read_mark
  mark_part m real = spaced_part none (λ _ _. refl) (weaken_part (Stops none) (λ _ _. tt) (byte_part m real))

  pub opening_part : Part IsByte Why opening opening (Clear none) read_open
  unfolding read_open
  opening_part = spaced_part none (λ _ _. refl) (weaken_part (Stops none) (λ _ _. tt) (one_part closing 123 125 refl (omega arith)))

  pub name_part : (wide : Bool) → Part IsByte Why (name wide) (name wide) (Clear (is_name_byte wide)) (read_name wide)
  unfolding read_name
  name_part wide = spaced_part (is_name_byte wide) (name_apart wide) (mapped_word_part (begins_name wide) (is_name_byte wide) (map lower) (begins_in_name wide) 97 refl (omega arith))

  pub written_part : (wide : Bool) → Part IsByte Why (written wide) (written wide) (Clear (is_name_byte wide)) (read_written wide)
  unfolding read_written
  written_part wide = spaced_part (is_name_byte wide) (name_apart wide) (mapped_word_part (begins_name wide) (is_name_byte wide) (λ x. x) (begins_in_name wide) 97 refl (omega arith))

  pub key_part : Part IsByte Why key key (Clear is_key_byte) read_key
  unfolding read_key
  key_part = spaced_part is_key_byte key_apart (mapped_word_part is_key_byte is_key_byte (λ x. x) (λ b is. is) 97 refl (omega arith))

  pub digits_part : Part IsByte Why digits digits (Clear is_digit) digits_reader
  digits_part = spaced_part is_digit digit_apart (mapped_word_part is_digit is_digit (λ x. x) (λ b is. is) 48 refl (omega arith))

abbrev pub delimited_reader : ℕ → ℕ → List ℕ → Outcome ℕ (List ℕ)
delimited_reader start close = read_spaced (λ ts. and_then (take_one true (same_byte start) ts) (λ _ rest. read_up_to close 1 rest))

pub delimited_part : (macros : MacroTexts) (start close : ℕ) → IsByte start → IsByte close → Part IsByte (IsLimit macros) (delimited (strict macros) start close) (delimited (free macros) start close) (Clear none) (delimited_reader start close)
delimited_part macros start close real real_close =
    spaced_part none (λ _ _. refl) (weaken_part (Stops none) (λ _ _. tt) (byte_part start real >>= λ _. enclosed_part macros close real_close))

-- what phrases open with

pub mark_opens : (m : ℕ) (W : ℕ → Type 0) → W m → Opens (mark m) W
mark_opens m W here = opens_then (one (same_byte m)) _ W (opens_one (same_byte m) W (λ t v e. subst W (sym (same_byte_is m t v e).0) here))
