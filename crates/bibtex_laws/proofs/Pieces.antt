-- The part for a piece of a value.
use Rattle.std.proofs.Common.{◌≡◌, ℕ, Bool, true, false, List, [], ◌∷◌, refl, sym, ap, subst, inl, inr, arith}
use Rattle.std.specs.Prelude.{nat_eq}
use Rattle.std.proofs.lemmas.Bool.{eqb-true, eqb-false}
use Rattle.std.proofs.lemmas.Bool.Decides.{nat_tests}
use Rattle.grammar.specs.Fault.{Every}
use Rattle.grammar.specs.Grammar.{one, either}
use Rattle.grammar.specs.Reading.{Outcome, starts, choose}
use Rattle.grammar.proofs.Parts.{Opens, opens_then, opens_one, opens_either, first_is}
use Rattle.bibtex_laws.proofs.Laws.{Core, IsViable, IsPassed, weaken_core, choose_core, choose_viable, choose_past, more_viable, more_past, restate}
use Rattle.bibtex_laws.proofs.Parts.{Part, part_within}
use Rattle.bibtex_spec.specs.Bytes.{is_digit, is_name_byte, begins_name}
use Rattle.bibtex_spec.specs.Macros.{MacroTexts}
use Rattle.bibtex_spec.specs.Reading.{same_byte, read_macro, read_piece, read_digits, read_enclosed}
use Rattle.bibtex_laws.specs.Grammar.{strict, free, digits, delimited, macro, name, written, piece, word, lower_word}
use Rattle.bibtex_laws.specs.Limits.{IsByte, IsLimit, none}
use Rattle.bibtex_laws.proofs.Words.{Clear}
use Rattle.bibtex_laws.proofs.Marks.{digits_part, digits_reader, delimited_part, delimited_reader, same_byte_is}
use Rattle.bibtex_laws.proofs.Macros.{macro_core, macro_stuck, macro_past}

-- what a word opens with
pub word_opens : (first belongs : ℕ → Bool) (f : List ℕ → List ℕ) (W : ℕ → Type 0) → ((b : ℕ) → first b ≡ true → W b) → Opens (λ bytes text. (starts first bytes ≡ true) × Every (λ b. belongs b ≡ true) bytes × (text ≡ f bytes)) W
word_opens first belongs f W known [] v h = absurd cc
word_opens first belongs f W known (b ∷ bytes) v h = (b, bytes, refl, known b h.0)

pub digits_open : (W : ℕ → Type 0) → ((b : ℕ) → is_digit b ≡ true → W b) → Opens digits W
digits_open W known = opens_then (word is_digit is_digit) _ W (word_opens is_digit is_digit (λ x. x) W known)

pub name_opens : (wide : Bool) (W : ℕ → Type 0) → ((b : ℕ) → begins_name wide b ≡ true → W b) → Opens (name wide) W
name_opens wide W known = opens_then (lower_word (begins_name wide) (is_name_byte wide)) _ W (word_opens (begins_name wide) (is_name_byte wide) _ W known)

written_opens : (wide : Bool) (W : ℕ → Type 0) → ((b : ℕ) → begins_name wide b ≡ true → W b) → Opens (written wide) W
written_opens wide W known = opens_then (word (begins_name wide) (is_name_byte wide)) _ W (word_opens (begins_name wide) (is_name_byte wide) (λ x. x) W known)

-- bytes that differ

pub eq_itself : (m : ℕ) → nat_eq m m ≡ true
eq_itself m = by (nat_eq m m) refl
  where
    by : (p : Bool) → nat_eq m m ≡ p → nat_eq m m ≡ true
    by true is = is
    by false is = absurd (eqb-false m m is refl)

pub not_this : (belongs : ℕ → Bool) (m : ℕ) → belongs m ≡ false → (b : ℕ) → belongs b ≡ true → nat_eq m b ≡ false
not_this belongs m is b h = by (nat_eq m b) refl
  where
    by : (p : Bool) → nat_eq m b ≡ p → nat_eq m b ≡ false
    by false e = e
    by true e = absurd (let same : belongs m ≡ belongs b = ap belongs (eqb-true m b e) in cc)

-- one set of bytes within another
pub not_in : (small large : ℕ → Bool) → ((b : ℕ) → small b ≡ true → large b ≡ true) → (rest : List ℕ) → starts large rest ≡ false → starts small rest ≡ false
not_in small large within [] is = refl
not_in small large within (b ∷ rest) is = by (small b) refl
  where
    by : (p : Bool) → small b ≡ p → small b ≡ false
    by false e = e
    by true e = absurd (let both : large b ≡ true = within b e in cc)

pub digit_in_name : (wide : Bool) (b : ℕ) → is_digit b ≡ true → is_name_byte wide b ≡ true
digit_in_name true b is = grind (arith, nat_tests)
digit_in_name false b is = grind (arith, nat_tests)

pub no_digit : (wide : Bool) (b : ℕ) → begins_name wide b ≡ true → is_digit b ≡ false
no_digit true b is = grind (arith, nat_tests)
no_digit false b is = grind (arith, nat_tests)

pub starts_none : (rest : List ℕ) → starts none rest ≡ false
starts_none [] = refl
starts_none (b ∷ rest) = refl

module _ (macros : MacroTexts) (before : List ℕ) where
  delimited_opens : (start close : ℕ) (W : ℕ → Type 0) → W start → Opens (delimited (free macros) start close) W
  delimited_opens start close W here = opens_then _ _ W (opens_then (one (same_byte start)) _ W (opens_one (same_byte start) W (λ t v e. subst W (sym (same_byte_is start t v e).0) here)))

  macro_opens : (W : ℕ → Type 0) → ((b : ℕ) → begins_name macros.stand b ≡ true → W b) → Opens (macro (free macros) before) W
  macro_opens W known x v h = written_opens macros.stand W known x h.0 h.1

  -- a byte that begins a piece
  pub piece_opens : (W : ℕ → Type 0) → ((b : ℕ) → is_digit b ≡ true → W b) → W 123 → W 34 → ((b : ℕ) → begins_name macros.stand b ≡ true → W b) → Opens (piece (free macros) before) W
  piece_opens W digit brace quote letter =
      opens_either digits _ W (digits_open W digit)
      (opens_either (delimited (free macros) 123 125) _ W (delimited_opens 123 125 W brace)
      (opens_either (delimited (free macros) 34 34) (macro (free macros) before) W (delimited_opens 34 34 W quote) (macro_opens W letter)))

  -- the same reader, with the byte that opens a text

  abbrev last_two : List ℕ → Outcome ℕ (List ℕ)
  last_two = choose (nat_eq 34) (delimited_reader 34 34) (read_macro macros before)

  abbrev last_three : List ℕ → Outcome ℕ (List ℕ)
  last_three = choose (nat_eq 123) (delimited_reader 123 125) last_two

  abbrev four : List ℕ → Outcome ℕ (List ℕ)
  four = choose is_digit digits_reader last_three

  delimited_same : (start close b : ℕ) (bytes : List ℕ) → nat_eq start b ≡ true → read_enclosed close (b ∷ bytes) ≡ delimited_reader start close (b ∷ bytes)
  unfolding read_enclosed
  delimited_same start close b bytes is =
      let same : start ≡ b = eqb-true start b is in
      subst (λ x. read_enclosed close (x ∷ bytes) ≡ delimited_reader start close (x ∷ bytes)) same (itself start)
    where
      itself : (start : ℕ) → read_enclosed close (start ∷ bytes) ≡ delimited_reader start close (start ∷ bytes)
      itself start = rw (eq_itself start) refl

  pub same_piece : (tokens : List ℕ) → read_piece macros before tokens ≡ four tokens
  unfolding read_piece read_digits
  same_piece [] = refl
  same_piece (b ∷ bytes) = by (is_digit b) (nat_eq 123 b) (nat_eq 34 b) refl refl refl
    where
      by : (p q r : Bool) → is_digit b ≡ p → nat_eq 123 b ≡ q → nat_eq 34 b ≡ r → read_piece macros before (b ∷ bytes) ≡ four (b ∷ bytes)
      by true q r h1 h2 h3 = rw h1 refl
      by false true r h1 h2 h3 = rw (h1, h2) (delimited_same 123 125 b bytes h2)
      by false false true h1 h2 h3 = rw (h1, h2, h3) (delimited_same 34 34 b bytes h3)
      by false false false h1 h2 h3 = rw (h1, h2, h3) refl

  -- its laws at some bytes

  after_digits : (rest : List ℕ) → Clear (is_name_byte macros.stand) rest → Clear is_digit rest
  after_digits rest f = (not_in is_digit (is_name_byte macros.stand) (digit_in_name macros.stand) rest f.0, f.1)

  after_text : (rest : List ℕ) → Clear (is_name_byte macros.stand) rest → Clear none rest
  after_text rest f = (starts_none rest, f.1)

  braces : Part IsByte (IsLimit macros) (delimited (strict macros) 123 125) (delimited (free macros) 123 125) (Clear none) (delimited_reader 123 125)
  braces = delimited_part macros 123 125 (omega arith) (omega arith)

  quotes : Part IsByte (IsLimit macros) (delimited (strict macros) 34 34) (delimited (free macros) 34 34) (Clear none) (delimited_reader 34 34)
  quotes = delimited_part macros 34 34 (omega arith) (omega arith)

  abbrev two_strict : List ℕ → List ℕ → Type 0
  two_strict = either (delimited (strict macros) 34 34) (macro (strict macros) before)

  abbrev two_free : List ℕ → List ℕ → Type 0
  two_free = either (delimited (free macros) 34 34) (macro (free macros) before)

  abbrev three_strict : List ℕ → List ℕ → Type 0
  three_strict = either (delimited (strict macros) 123 125) two_strict

  abbrev three_free : List ℕ → List ℕ → Type 0
  three_free = either (delimited (free macros) 123 125) two_free

  two_in : (x v : List ℕ) → two_strict x v → two_free x v
  two_in x v (inl h) = inl (part_within quotes x v h)
  two_in x v (inr h) = inr ((macro_core macros before []).within x v h)

  three_in : (x v : List ℕ) → three_strict x v → three_free x v
  three_in x v (inl h) = inl (part_within braces x v h)
  three_in x v (inr h) = inr (two_in x v h)

  two_open : (W : ℕ → Type 0) → W 34 → ((b : ℕ) → begins_name macros.stand b ≡ true → W b) → Opens two_free W
  two_open W quote letter = opens_either (delimited (free macros) 34 34) (macro (free macros) before) W (delimited_opens 34 34 W quote) (macro_opens W letter)

  three_open : (W : ℕ → Type 0) → W 123 → W 34 → ((b : ℕ) → begins_name macros.stand b ≡ true → W b) → Opens three_free W
  three_open W brace quote letter = opens_either (delimited (free macros) 123 125) two_free W (delimited_opens 123 125 W brace) (two_open W quote letter)

  two_core : (ts : List ℕ) → Core two_strict two_free (Clear (is_name_byte macros.stand)) last_two ts
  two_core ts =
      choose_core (nat_eq 34) (delimited (strict macros) 34 34) (delimited (free macros) 34 34) (macro (strict macros) before) (macro (free macros) before) (Clear (is_name_byte macros.stand)) (delimited_reader 34 34) (read_macro macros before) ts
      (part_within quotes) ((macro_core macros before []).within)
      (λ _. weaken_core (Clear (is_name_byte macros.stand)) after_text (quotes.reads ts).core) (λ _. macro_core macros before ts)
      (first_is (delimited (free macros) 34 34) (nat_eq 34) true (delimited_opens 34 34 (λ t. nat_eq 34 t ≡ true) refl))
      (λ x v rest h _. first_is (macro (free macros) before) (nat_eq 34) false (macro_opens (λ t. nat_eq 34 t ≡ false) (not_this (begins_name macros.stand) 34 refl)) x v rest h)

  three_core : (ts : List ℕ) → Core three_strict three_free (Clear (is_name_byte macros.stand)) last_three ts
  three_core ts =
      choose_core (nat_eq 123) (delimited (strict macros) 123 125) (delimited (free macros) 123 125) two_strict two_free (Clear (is_name_byte macros.stand)) (delimited_reader 123 125) last_two ts
      (part_within braces) two_in
      (λ _. weaken_core (Clear (is_name_byte macros.stand)) after_text (braces.reads ts).core) (λ _. two_core ts)
      (first_is (delimited (free macros) 123 125) (nat_eq 123) true (delimited_opens 123 125 (λ t. nat_eq 123 t ≡ true) refl))
      (λ x v rest h _. first_is two_free (nat_eq 123) false (two_open (λ t. nat_eq 123 t ≡ false) refl (not_this (begins_name macros.stand) 123 refl)) x v rest h)

  four_core : (ts : List ℕ) → Core (piece (strict macros) before) (piece (free macros) before) (Clear (is_name_byte macros.stand)) four ts
  four_core ts =
      choose_core is_digit digits digits three_strict three_free (Clear (is_name_byte macros.stand)) digits_reader last_three ts
      (λ x v h. h) three_in
      (λ _. weaken_core (Clear (is_name_byte macros.stand)) after_digits ((digits_part {Why = IsLimit macros}).reads ts).core) (λ _. three_core ts)
      (first_is digits is_digit true (digits_open (λ t. is_digit t ≡ true) (λ b is. is)))
      (λ x v rest h _. first_is three_free is_digit false (three_open (λ t. is_digit t ≡ false) refl refl (no_digit macros.stand)) x v rest h)

  four_viable : (ts : List ℕ) → IsViable IsByte (piece (strict macros) before) four ts
  four_viable ts =
      choose_viable is_digit (piece (strict macros) before) digits_reader last_three ts
      (λ _. more_viable IsByte digits digits_reader ts (piece (strict macros) before) (λ x v h. inl h) ((digits_part {Why = IsLimit macros}).reads ts).viable)
      (λ _. choose_viable (nat_eq 123) (piece (strict macros) before) (delimited_reader 123 125) last_two ts
      (λ _. more_viable IsByte (delimited (strict macros) 123 125) (delimited_reader 123 125) ts (piece (strict macros) before) (λ x v h. inr (inl h)) (braces.reads ts).viable)
      (λ _. choose_viable (nat_eq 34) (piece (strict macros) before) (delimited_reader 34 34) (read_macro macros before) ts
      (λ _. more_viable IsByte (delimited (strict macros) 34 34) (delimited_reader 34 34) ts (piece (strict macros) before) (λ x v h. inr (inr (inl h))) (quotes.reads ts).viable)
      (λ _. macro_stuck macros before ts)))

  four_past : (ts : List ℕ) → IsPassed IsByte (IsLimit macros) (piece (strict macros) before) (piece (free macros) before) four ts
  four_past ts =
      choose_past is_digit (piece (strict macros) before) (piece (free macros) before) digits_reader last_three ts
      (λ _. more_past IsByte (IsLimit macros) digits digits digits_reader ts (piece (strict macros) before) (piece (free macros) before) (λ x v h. inl h) (λ x v h. inl h) ((digits_part {Why = IsLimit macros}).reads ts).past)
      (λ _. choose_past (nat_eq 123) (piece (strict macros) before) (piece (free macros) before) (delimited_reader 123 125) last_two ts
      (λ _. more_past IsByte (IsLimit macros) (delimited (strict macros) 123 125) (delimited (free macros) 123 125) (delimited_reader 123 125) ts (piece (strict macros) before) (piece (free macros) before) (λ x v h. inr (inl h)) (λ x v h. inr (inl h)) (braces.reads ts).past)
      (λ _. choose_past (nat_eq 34) (piece (strict macros) before) (piece (free macros) before) (delimited_reader 34 34) (read_macro macros before) ts
      (λ _. more_past IsByte (IsLimit macros) (delimited (strict macros) 34 34) (delimited (free macros) 34 34) (delimited_reader 34 34) ts (piece (strict macros) before) (piece (free macros) before) (λ x v h. inr (inr (inl h))) (λ x v h. inr (inr (inl h))) (quotes.reads ts).past)
      (λ _. macro_past macros before ts)))

  pub piece_part : Part IsByte (IsLimit macros) (piece (strict macros) before) (piece (free macros) before) (Clear (is_name_byte macros.stand)) (read_piece macros before)
  piece_part = record {
    reads = λ ts. restate (piece (strict macros) before) (piece (free macros) before) (read_piece macros before) (λ x v h. h) (λ x v h. h) (λ x v h. h) (λ x v h. h) same_piece
        (record { core = four_core ts; viable = four_viable ts; past = four_past ts });
    phrase = let a = (digits_part {Why = IsLimit macros}).phrase in (a.0, a.1, inl a.2, a.3);
  }
