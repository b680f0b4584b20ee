-- The reader of an item that the grammar's parts make reads as `read_item` does, with the bytes up to the next item.
use Rattle.std.proofs.Common.{◌≡◌, ◌+◌, ◌-◌, ◌≤◌, ℕ, Bool, true, false, List, [], ◌∷◌, length, length-append, refl, sym, ap, ◌∙◌, arith}
use Rattle.std.specs.Prelude.{map, codes, if◌then◌else◌}
use Rattle.std.specs.Str.{bytes_eq}
use Rattle.std.proofs.lemmas.Bool.Decides.{nat_tests}
use Rattle.grammar.specs.Reading.{Outcome, Read, Stuck, Past, and_then, starts, take_one}
use Rattle.grammar.proofs.Laws.{Stops}
use Rattle.bibtex_laws.proofs.Parts.{Part}
use Rattle.bibtex_spec.specs.declared.Item.{Item}
use Rattle.bibtex_spec.specs.declared.Item.TheVariants.{Passes, Defines, Enters}
use Rattle.bibtex_spec.specs.Bytes.{is_blank, is_letter, is_junk, lower, run, behind}
use Rattle.bibtex_spec.specs.Macros.{MacroTexts}
use Rattle.bibtex_spec.specs.Reading.{same_byte, read_mark, read_open, read_class, read_name, read_key, read_value, read_fields, read_entry, read_definition, read_preamble, read_rest, read_item}
use Rattle.bibtex_laws.specs.Grammar.{Phrase, lower_word, Passing, Defining, Entering, OfComment, OfDefinition, OfPreamble, OfEntry}
use Rattle.bibtex_laws.specs.Limits.{IsByte, IsLimit}
use Rattle.bibtex_laws.proofs.Words.{run_parts, behind_stops, read_word, mapped_word_part}
use Rattle.bibtex_laws.proofs.Marks.{opening_part, mark_part}
use Rattle.bibtex_laws.proofs.Entries.{closed_reader, definition_reader, preamble_reader, entry_reader, reader_of, behind_reader, head_reader, item_reader}

-- ways to read

pub and_then_assoc : {A B C : Type 0} (o : Outcome ℕ A) (f : A → List ℕ → Outcome ℕ B) (g : B → List ℕ → Outcome ℕ C) → and_then (and_then o f) g ≡ and_then o (λ v rest. and_then (f v rest) g)
and_then_assoc (Read v rest) f g = refl
and_then_assoc (Stuck rest) f g = refl
and_then_assoc (Past rest) f g = refl

pub and_then_same : {A B : Type 0} (o : Outcome ℕ A) (f g : A → List ℕ → Outcome ℕ B) → ((v : A) (rest : List ℕ) → o ≡ Read v rest → f v rest ≡ g v rest) → and_then o f ≡ and_then o g
and_then_same (Read v rest) f g same = same v rest refl
and_then_same (Stuck rest) f g same = refl
and_then_same (Past rest) f g same = refl

abbrev read_letters : List ℕ → Outcome ℕ (List ℕ)
read_letters = read_word is_letter is_letter (map lower) (λ b is. is)

-- blanks are no `@`

blank_is_junk : (b : ℕ) → is_blank b ≡ true → is_junk b ≡ true
blank_is_junk b is = grind (arith, nat_tests)

pub junk_behind_blanks : (ts : List ℕ) → behind is_junk (behind is_blank ts) ≡ behind is_junk ts
junk_behind_blanks [] = refl
junk_behind_blanks (b ∷ ts) = by (is_blank b) refl (junk_behind_blanks ts)
  where
    by : (p : Bool) → is_blank b ≡ p → behind is_junk (behind is_blank ts) ≡ behind is_junk ts → behind is_junk (behind is_blank (b ∷ ts)) ≡ behind is_junk (b ∷ ts)
    by true is again = rw (is, blank_is_junk b is) again
    by false is again = rw is refl

pub junk_once : (ts : List ℕ) → behind is_junk (behind is_junk ts) ≡ behind is_junk ts
junk_once [] = refl
junk_once (b ∷ ts) = by (is_junk b) refl (junk_once ts)
  where
    by : (p : Bool) → is_junk b ≡ p → behind is_junk (behind is_junk ts) ≡ behind is_junk ts → behind is_junk (behind is_junk (b ∷ ts)) ≡ behind is_junk (b ∷ ts)
    by true is again = rw is again
    by false is again = rw (is, is) refl

-- an item's phrase in a text of so many bytes
abbrev pub phrase_of : ℕ → Item → Phrase
phrase_of whole Passes = Passing
phrase_of whole (Defines word text) = Defining word text
phrase_of whole (Enters entry) = Entering (whole - entry.left) entry.class entry.key entry.fields

-- the phrase, and the bytes up to the next item
abbrev pub up_to_next : ℕ → Outcome ℕ Item → Outcome ℕ Phrase
up_to_next whole read = and_then read (λ found rest. Read (phrase_of whole found) (behind is_junk rest))

closed_same : (whole close : ℕ) (found : Item) (ts : List ℕ) → closed_reader close (phrase_of whole found) ts ≡ up_to_next whole (and_then (read_mark close ts) (λ _ rest. Read found rest))
unfolding read_mark
closed_same whole close found ts = by (take_one true (same_byte close) ts) refl
  where
    by : (o : Outcome ℕ ℕ) → take_one true (same_byte close) ts ≡ o → and_then o (λ _ rest. Read (phrase_of whole found) (behind is_junk rest)) ≡ up_to_next whole (and_then (and_then o (λ v rest. Read v (behind is_blank rest))) (λ _ rest. Read found rest))
    by (Read v rest) is = ap (Read (phrase_of whole found)) (sym (junk_behind_blanks rest))
    by (Stuck rest) is = refl
    by (Past rest) is = refl

module _ (macros : MacroTexts) (whole : ℕ) where
  definition_same : (ts : List ℕ) → definition_reader macros ts ≡ up_to_next whole (read_definition macros (behind is_blank ts))
  unfolding read_definition
  definition_same ts =
      and_then_same (read_open (behind is_blank ts)) _ _ (λ close r1 _.
      and_then_same (read_name macros.stand r1) _ _ (λ word r2 _.
      and_then_same (read_mark 61 r2) _ _ (λ _ r3 _.
      and_then_same (read_value macros r3) _ _ (λ text r4 _. closed_same whole close (Defines word text) r4)
      ∙ sym (and_then_assoc (read_value macros r3) _ _))
      ∙ sym (and_then_assoc (read_mark 61 r2) _ _))
      ∙ sym (and_then_assoc (read_name macros.stand r1) _ _))
      ∙ sym (and_then_assoc (read_open (behind is_blank ts)) _ _)

  preamble_same : (ts : List ℕ) → preamble_reader macros ts ≡ up_to_next whole (read_preamble macros (behind is_blank ts))
  unfolding read_preamble
  preamble_same ts =
      and_then_same (read_open (behind is_blank ts)) _ _ (λ close r1 _.
      and_then_same (read_value macros r1) _ _ (λ _ r2 _. closed_same whole close Passes r2)
      ∙ sym (and_then_assoc (read_value macros r1) _ _))
      ∙ sym (and_then_assoc (read_open (behind is_blank ts)) _ _)

  behind_shorter : (belongs : ℕ → Bool) (ts : List ℕ) → length (behind belongs ts) ≤ length ts
  behind_shorter belongs ts = omega (arith, ap length (run_parts belongs ts), length-append (run belongs ts) (behind belongs ts))

  -- so many bytes stand before an entry's key
  ahead_is : (b r : List ℕ) (close : ℕ) → length b ≤ whole → read_open (behind is_blank b) ≡ Read close r → (whole - length b) + (length b - length r) ≡ whole - length r
  ahead_is b r close few was =
      let a = ((opening_part {Why = IsLimit macros}).reads (behind is_blank b)).core.sound close r was in
      let k = behind_shorter is_blank b in
      omega (arith, k, few, ap length a.1, length-append a.0 r)

  entry_same : (class b : List ℕ) → length b ≤ whole → entry_reader macros class (whole - length b) b ≡ up_to_next whole (read_entry macros class (behind is_blank b))
  unfolding read_entry
  entry_same class b few =
      and_then_assoc (read_open (behind is_blank b)) _ _
      ∙ and_then_same (read_open (behind is_blank b)) _ _ (λ close r1 was.
      and_then_same (read_key r1) _ _ (λ word r2 _.
      and_then_same (read_fields macros r2) _ _ (λ found r3 _.
      ap (λ n. closed_reader close (Entering n class word found) r3) (ahead_is b r1 close few was)
      ∙ closed_same whole close (Enters (record { class = class; key = word; left = length r1; fields = found })) r3)
      ∙ sym (and_then_assoc (read_fields macros r2) _ _))
      ∙ sym (and_then_assoc (read_key r1) _ _))
      ∙ sym (and_then_assoc (read_open (behind is_blank b)) _ _)

  rest_same : (class b : List ℕ) → starts is_letter b ≡ false → length b ≤ whole → behind_reader macros class (whole - length b) b ≡ up_to_next whole (read_rest macros class (behind is_blank b))
  rest_same class b ends few = by (bytes_eq class (codes "comment")) (bytes_eq class (codes "string")) (bytes_eq class (codes "preamble"))
    where
      by : (p q r : Bool) → reader_of macros (if p then OfComment else if q then OfDefinition else if r then OfPreamble else OfEntry) class (whole - length b) b
          ≡ up_to_next whole ((if p then (λ ts. Read Passes ts) else if q then read_definition macros else if r then read_preamble macros else read_entry macros class) (behind is_blank b))
      by true q r = rw ends (ap (Read Passing) (sym (junk_behind_blanks b)))
      by false true r = definition_same b
      by false false true = preamble_same b
      by false false false = entry_same class b few

  class_same : (r : List ℕ) → length r ≤ whole → (p : Bool) → starts is_letter r ≡ p
      → and_then (read_letters r) (λ class b. behind_reader macros class (whole - length b) b) ≡ up_to_next whole (and_then (read_class r) (read_rest macros))
  unfolding read_class
  class_same r few false is = rw is refl
  class_same r few true is =
      let k = behind_shorter is_letter r in
      rw is (rest_same (map lower (run is_letter r)) (behind is_letter r) (behind_stops is_letter r) (omega (arith, few, k)))

letters_part : {Why : List ℕ → (ℕ → Bool) → Type 0} → Part IsByte Why (lower_word is_letter is_letter) (lower_word is_letter is_letter) (Stops is_letter) read_letters
letters_part = mapped_word_part is_letter is_letter (map lower) (λ b is. is) 97 refl (omega arith)

class_shifted : (macros : MacroTexts) (at size : ℕ) (r : List ℕ) → length r ≤ size → (p : Bool) → starts is_letter r ≡ p
    → and_then (read_letters r) (λ class b. behind_reader macros class (at + (size - length b)) b) ≡ up_to_next (at + size) (and_then (read_class r) (read_rest macros))
class_shifted macros at size r few p is =
    and_then_same (read_letters r) _ _ (λ class b was.
    let a = ((letters_part {Why = IsLimit macros}).reads r).core.sound class b was in
    let place : at + (size - length b) ≡ (at + size) - length b = omega (arith, few, ap length a.1, length-append a.0 b) in
    ap (λ n. behind_reader macros class n b) place)
    ∙ class_same macros (at + size) r (omega (arith, few)) p is

pub item_same : (macros : MacroTexts) (at : ℕ) (ts : List ℕ) → item_reader macros at ts ≡ up_to_next (at + length ts) (read_item macros ts)
unfolding read_item
item_same macros at ts =
    and_then_assoc (head_reader ts) _ _
    ∙ and_then_assoc (read_mark 64 ts) _ _
    ∙ and_then_same (read_mark 64 ts) _ _ (λ v r was.
    let a = ((mark_part {Why = IsLimit macros} 64 (omega arith)).reads ts).core.sound v r was in
    let few : length r ≤ length ts = omega (arith, ap length a.1, length-append a.0 r) in
    class_shifted macros at (length ts) r few (starts is_letter r) refl)
    ∙ sym (and_then_assoc (read_mark 64 ts) _ _)
