-- The parts for values and fields.
use Rattle.std.proofs.Common.{◌≡◌, ℕ, Bool, true, false, List, [], ◌∷◌, ◌++◌, refl, sym, ap, subst, ◌∙◌, arith}
use Rattle.std.specs.Prelude.{nat_eq}
use Rattle.std.proofs.lemmas.Bool.{eqb-true}
use Rattle.grammar.specs.Grammar.{nothing}
use Rattle.grammar.specs.Reading.{starts}
use Rattle.grammar.proofs.Parts.{Opens, opens_then}
use Rattle.bibtex_laws.proofs.Parts.{Part, give_part, weaken_part, then_part, then_opens, steps_follow, iterated_part}
use Rattle.bibtex_spec.specs.Bytes.{is_blank, is_digit, is_name_byte, begins_name}
use Rattle.bibtex_spec.specs.Values.{tidy}
use Rattle.bibtex_spec.specs.Macros.{MacroTexts}
use Rattle.bibtex_spec.specs.Reading.{read_further, read_value, read_field}
use Rattle.bibtex_laws.specs.Grammar.{strict, free, mark, name, piece, further, value, field}
use Rattle.bibtex_laws.specs.Limits.{IsByte, IsLimit}
use Rattle.bibtex_laws.proofs.Words.{Clear}
use Rattle.bibtex_laws.proofs.Marks.{mark_part, name_part, mark_opens, not_blank, digit_apart, begin_apart}
use Rattle.bibtex_laws.proofs.Pieces.{piece_part, piece_opens, name_opens}

-- what may stand behind a value: no more of its last word, no blank and no further piece
abbrev pub Done : Bool → List ℕ → Type 0
Done wide rest = Clear (is_name_byte wide) rest × (starts (nat_eq 35) rest ≡ false)

-- where nothing is between
pub next_to : (F : List ℕ → Type 0) (y rest : List ℕ) → y ≡ [] → F rest → F (y ++ rest)
next_to F y rest e f = subst (λ x. F (x ++ rest)) (sym e) f

pub nothing_follow : {A B : Type 0} (F : List ℕ → Type 0) (f : A → B) (v : A) (y : List ℕ) (w : B) (rest : List ℕ) → nothing (f v) y w → F rest → F (y ++ rest)
nothing_follow F f v y w rest h g = next_to F y rest h.0 g

pub clear_byte : (wide : Bool) (m : ℕ) → is_name_byte wide m ≡ false → is_blank m ≡ false → (t : ℕ) (later : List ℕ) → nat_eq m t ≡ true → Clear (is_name_byte wide) (t ∷ later)
clear_byte wide m no_name no_blank t later is =
    let same : m ≡ t = eqb-true m t is in
    (ap (is_name_byte wide) (sym same) ∙ no_name, ap is_blank (sym same) ∙ no_blank)

module _ (macros : MacroTexts) where
  pub piece_begins : (before : List ℕ) → Opens (piece (free macros) before) (λ t. is_blank t ≡ false)
  piece_begins before = piece_opens macros before (λ t. is_blank t ≡ false) (not_blank is_digit digit_apart) refl refl (not_blank (begins_name macros.stand) (begin_apart macros.stand))

  pub value_begins : Opens (value (free macros)) (λ t. is_blank t ≡ false)
  value_begins = opens_then (piece (free macros) []) _ (λ t. is_blank t ≡ false) (piece_begins [])

  further_part : (before : List ℕ) → Part IsByte (IsLimit macros) (further (strict macros) before) (further (free macros) before) (Clear (is_name_byte macros.stand)) (read_further macros before)
  unfolding read_further
  further_part before =
      then_opens (λ t. is_blank t ≡ false) (mark_part 35 (omega arith))
      (λ _. then_part (piece_part macros before)
      (λ text. weaken_part (Clear (is_name_byte macros.stand)) (λ _ _. tt) (give_part (before ++ text)))
      (nothing_follow (Clear (is_name_byte macros.stand)) (λ text. before ++ text)))
      (λ _. opens_then (piece (free macros) before) _ (λ t. is_blank t ≡ false) (piece_begins before))
      (λ t later is. (refl, is))

  further_opens : (before : List ℕ) → Opens (further (free macros) before) (λ t. nat_eq 35 t ≡ true)
  further_opens before = opens_then (mark 35) _ (λ t. nat_eq 35 t ≡ true) (mark_opens 35 (λ t. nat_eq 35 t ≡ true) refl)

  pub value_part : Part IsByte (IsLimit macros) (value (strict macros)) (value (free macros)) (Done macros.stand) (read_value macros)
  unfolding read_value
  value_part =
      then_part (piece_part macros [])
      (iterated_part (nat_eq 35) further_part further_opens (clear_byte macros.stand 35 refl refl) (λ rest f. f.0) (λ rest f. f.1))
      (λ first y w rest h f. steps_follow {G = Clear (is_name_byte macros.stand)} {F = Done macros.stand} (nat_eq 35) further_opens (clear_byte macros.stand 35 refl refl) (λ rest f. f.0) y first w rest h f)

  pub field_part : Part IsByte (IsLimit macros) (field (strict macros)) (field (free macros)) (Done macros.stand) (read_field macros)
  unfolding read_field
  field_part =
      then_opens (λ t. nat_eq 61 t ≡ true) (name_part macros.stand)
      (λ word. then_opens (λ t. is_blank t ≡ false) (mark_part 61 (omega arith))
      (λ _. then_part value_part (λ text. weaken_part (Done macros.stand) (λ _ _. tt) (give_part (record { name = word; text = tidy text }))) (nothing_follow (Done macros.stand) (λ text. record { name = word; text = tidy text })))
      (λ _. opens_then (value (free macros)) _ (λ t. is_blank t ≡ false) value_begins)
      (λ t later is. (refl, is)))
      (λ word. opens_then (mark 61) _ (λ t. nat_eq 61 t ≡ true) (mark_opens 61 (λ t. nat_eq 61 t ≡ true) refl))
      (clear_byte macros.stand 61 refl refl)

  pub field_opens : Opens (field (free macros)) (λ t. begins_name macros.stand t ≡ true)
  field_opens = opens_then (name macros.stand) _ (λ t. begins_name macros.stand t ≡ true) (name_opens macros.stand (λ t. begins_name macros.stand t ≡ true) (λ b is. is))
