-- The parts for what a word behind `@` begins.
use Rattle.std.proofs.Common.{◌≡◌, ◌+◌, ℕ, Bool, true, false, List, [], ◌∷◌, ◌++◌, Some, None, refl, sym, ap, subst, ◌∙◌, append_assoc, inl, inr, arith}
use Rattle.std.specs.Prelude.{◌⊎◌, nat_eq, map, if◌then◌else◌}
use Rattle.std.proofs.lemmas.List.{append-nil, append_cancel_right}
use Rattle.std.proofs.lemmas.Bool.{eqb-true}
use Rattle.std.proofs.lemmas.Bool.Decides.{nat_tests}
use Rattle.grammar.specs.Fault.{Every}
use Rattle.grammar.specs.Grammar.{nothing, one, ◌>>=◌, ◌>>◌}
use Rattle.grammar.specs.Reading.{Outcome, Read, Stuck, Past, and_then, starts, choose, take_one}
use Rattle.grammar.proofs.Laws.{Stops}
use Rattle.grammar.proofs.Parts.{Opens, opens_one, opens_then}
use Rattle.bibtex_laws.specs.Past.{IsPastAt}
use Rattle.bibtex_laws.proofs.Laws.{End, Value, Unexpected, answer, no_front}
use Rattle.bibtex_laws.proofs.Parts.{Part, part_within, give_part, weaken_part, then_part, then_opens}
use Rattle.bibtex_spec.specs.Bytes.{is_blank, is_letter, is_key_byte, is_junk, lower, run, behind, begins_name}
use Rattle.bibtex_spec.specs.Macros.{MacroTexts}
use Rattle.bibtex_spec.specs.Reading.{stuck, same_byte, closing, read_mark, read_open, read_name, read_key, read_value, read_fields}
use Rattle.bibtex_laws.specs.Grammar.{Rules, strict, free, Phrase, Passing, Defining, Entering, each, mark, opening, name, key, value, fields, gap, closed, comment, definition, preamble, entry, Kind, OfComment, OfDefinition, OfPreamble, OfEntry, kind_of, of_kind, behind_word, item, word, lower_word}
use Rattle.bibtex_laws.specs.Limits.{IsByte, IsLimit, none}
use Rattle.bibtex_laws.proofs.Words.{Clear, each_part, blanks_part, run_parts, run_every, run_exact, behind_stops, read_word, mapped_word_part}
use Rattle.bibtex_laws.proofs.Marks.{byte_part, mark_part, opening_part, name_part, key_part, mark_opens, same_byte_is, not_blank, letter_apart, key_apart, begin_apart}
use Rattle.bibtex_laws.proofs.Pieces.{name_opens, word_opens, not_in}
use Rattle.bibtex_laws.proofs.Values.{next_to, clear_byte, value_part, value_begins}
use Rattle.bibtex_laws.proofs.Fields.{Shut, fields_part, fields_in, fields_follow}
use Rattle.bibtex_laws.proofs.Known.{then_known, read_sized, sized_part}

-- bytes up to the next item, of which no letter is first

letter_is_junk : (b : ℕ) → is_letter b ≡ true → is_junk b ≡ true
letter_is_junk b is = grind (arith, nat_tests)

abbrev pub comment_reader : List ℕ → Outcome ℕ Phrase
comment_reader = choose is_letter stuck (λ ts. Read Passing (behind is_junk ts))

run_unlettered : (ts : List ℕ) → starts is_letter ts ≡ false → starts is_letter (run is_junk ts) ≡ false
run_unlettered [] is = refl
run_unlettered (b ∷ ts) is = by (is_junk b) refl
  where
    by : (p : Bool) → is_junk b ≡ p → starts is_letter (run is_junk (b ∷ ts)) ≡ false
    by true e = rw e is
    by false e = rw e refl

front_unlettered : (front rest : List ℕ) → starts is_letter front ≡ false → starts is_junk rest ≡ false → starts is_letter (front ++ rest) ≡ false
front_unlettered [] rest is stops = not_in is_letter is_junk letter_is_junk rest stops
front_unlettered (b ∷ front) rest is stops = is

same_first : (front : List ℕ) (t : ℕ) (r s : List ℕ) → starts is_letter (front ++ (t ∷ s)) ≡ starts is_letter (front ++ (t ∷ r))
same_first [] t r s = refl
same_first (x ∷ front) t r s = refl

comment_sound : (tokens : List ℕ) (p : Bool) → starts is_letter tokens ≡ p → (v : Phrase) (rest : List ℕ) → comment_reader tokens ≡ Read v rest → (front : List ℕ) × (tokens ≡ front ++ rest) × comment front v
comment_sound tokens true is v rest e = let h : Stuck tokens ≡ Read v rest = sym (rw is refl) ∙ e in absurd cc
comment_sound tokens false is v rest e =
    let h : Read Passing (behind is_junk tokens) ≡ Read v rest = sym (rw is refl) ∙ e in
    let left : behind is_junk tokens ≡ rest = cc in
    let same : v ≡ Passing = cc in
    (run is_junk tokens, run_parts is_junk tokens ∙ ap (λ x. run is_junk tokens ++ x) left, (run_unlettered tokens is, run_every is_junk tokens, same))

comment_complete : (tokens front : List ℕ) (v : Phrase) (rest : List ℕ) → tokens ≡ front ++ rest → comment front v → Stops is_junk rest → comment_reader tokens ≡ Read v rest
comment_complete tokens front v rest e h stops =
    let is : starts is_letter tokens ≡ false = ap (starts is_letter) e ∙ front_unlettered front rest h.0 stops in
    let a = (run_exact is_junk front rest h.1 stops).1 in
    let left : behind is_junk tokens ≡ rest = ap (behind is_junk) e ∙ a in
    let read : comment_reader tokens ≡ Read Passing (behind is_junk tokens) = rw is refl in
    read ∙ ap (λ x. Read Passing x) left ∙ ap (λ x. Read x rest) (sym h.2)

comment_local : (tokens : List ℕ) (p : Bool) → starts is_letter tokens ≡ p → (front : List ℕ) (t : ℕ) (r s : List ℕ) (o : End Phrase) → tokens ≡ front ++ (t ∷ r) → comment_reader tokens ≡ answer o (t ∷ r) → comment_reader (front ++ (t ∷ s)) ≡ answer o (t ∷ s)
comment_local tokens true is front t r s (Value v) e h = let k : Stuck tokens ≡ Read v (t ∷ r) = sym (rw is refl) ∙ h in absurd cc
comment_local tokens true is front t r s Unexpected e h =
    let k : Stuck tokens ≡ Stuck (t ∷ r) = sym (rw is refl) ∙ h in
    let left : tokens ≡ t ∷ r = cc in
    let empty : front ≡ [] = no_front front (t ∷ r) tokens e left in
    let first : is_letter t ≡ true = ap (starts is_letter) (sym left) ∙ is in
    rw (empty, first) refl
comment_local tokens false is front t r s Unexpected e h = let k : Read Passing (behind is_junk tokens) ≡ Stuck (t ∷ r) = sym (rw is refl) ∙ h in absurd cc
comment_local tokens false is front t r s (Value v) e h =
    let a = comment_sound tokens false is v (t ∷ r) h in
    let same : a.0 ≡ front = append_cancel_right a.0 front (t ∷ r) (sym a.1 ∙ e) in
    let k : Read Passing (behind is_junk tokens) ≡ Read v (t ∷ r) = sym (rw is refl) ∙ h in
    let left : behind is_junk tokens ≡ t ∷ r = cc in
    let stops : is_junk t ≡ false = ap (starts is_junk) (sym left) ∙ behind_stops is_junk tokens in
    comment_complete (front ++ (t ∷ s)) front v (t ∷ s) refl (subst (λ x. comment x v) same a.2) stops

pub comment_part : {Why : List ℕ → (ℕ → Bool) → Type 0} → Part IsByte Why comment comment (Stops is_junk) comment_reader
comment_part {Why} = record {
  reads = λ tokens. record {
    core = record {
      sound = comment_sound tokens (starts is_letter tokens) refl;
      complete = comment_complete tokens;
      accepts = λ front v rest e h f. inl (comment_complete tokens front v rest e h f);
      local = comment_local tokens (starts is_letter tokens) refl;
      within = λ x v h. h;
    };
    viable = by_viable tokens (starts is_letter tokens) refl;
    past = by_past tokens (starts is_letter tokens) refl;
  };
  phrase = ([], Passing, (refl, tt, refl), tt);
}
  where
    by_viable : (tokens : List ℕ) (p : Bool) → starts is_letter tokens ≡ p → (rest : List ℕ) → comment_reader tokens ≡ Stuck rest → (front : List ℕ) × (more : List ℕ) × (v : Phrase) × (tokens ≡ front ++ rest) × comment (front ++ more) v × Every IsByte more
    by_viable tokens true is rest e = let h : Stuck tokens ≡ Stuck rest = sym (rw is refl) ∙ e in ([], [], Passing, cc, (refl, tt, refl), tt)
    by_viable tokens false is rest e = let h : Read Passing (behind is_junk tokens) ≡ Stuck rest = sym (rw is refl) ∙ e in absurd cc

    by_past : (tokens : List ℕ) (p : Bool) → starts is_letter tokens ≡ p → (rest : List ℕ) → comment_reader tokens ≡ Past rest → IsPastAt IsByte Why comment comment comment_reader tokens rest
    by_past tokens true is rest e = let h : Stuck tokens ≡ Past rest = sym (rw is refl) ∙ e in absurd cc
    by_past tokens false is rest e = let h : Read Passing (behind is_junk tokens) ≡ Past rest = sym (rw is refl) ∙ e in absurd cc

-- the byte that closes an item

-- one of the two
abbrev pub IsClosing : ℕ → Type 0
IsClosing close = (close ≡ 125) ⊎ (close ≡ 41)

pub closing_is : (b close : ℕ) → closing b ≡ Some close → ((b ≡ 123) ⊎ (b ≡ 40)) × IsClosing close
closing_is b close = by (nat_eq b 123) (nat_eq b 40) refl refl
  where
    by : (p q : Bool) → nat_eq b 123 ≡ p → nat_eq b 40 ≡ q → (if p then Some 125 else if q then Some 41 else None) ≡ Some close → ((b ≡ 123) ⊎ (b ≡ 40)) × IsClosing close
    by true q is e h = (inl (eqb-true b 123 is), inl cc)
    by false true is e h = (inr (eqb-true b 40 e), inr cc)
    by false false is e h = absurd cc

pub opening_closes : (x : List ℕ) (close : ℕ) → opening x close → IsClosing close
opening_closes x close h =
    let k = (closing_is h.4.0 h.2 h.4.2).1 in
    subst IsClosing (sym h.5.5.1) k

at_closing : (P : ℕ → Type 0) → P 125 → P 41 → (close : ℕ) → IsClosing close → P close
at_closing P brace round close (inl is) = subst P (sym is) brace
at_closing P brace round close (inr is) = subst P (sym is) round

-- the opening byte
pub opening_opens : (W : ℕ → Type 0) → W 123 → W 40 → Opens opening W
opening_opens W brace round = opens_then (one closing) _ W (opens_one closing W (λ t v e. by t (closing_is t v e).0))
  where
    by : (t : ℕ) → (t ≡ 123) ⊎ (t ≡ 40) → W t
    by t (inl is) = subst W (sym is) brace
    by t (inr is) = subst W (sym is) round

abbrev pub closed_reader : {A : Type 0} → ℕ → A → List ℕ → Outcome ℕ A
closed_reader close v ts = and_then (take_one true (same_byte close) ts) (λ _ rest. Read v (behind is_junk rest))

junk_then : {A : Type 0} {Why : List ℕ → (ℕ → Bool) → Type 0} (v : A) → Part IsByte Why (each is_junk >> nothing v) (each is_junk >> nothing v) (Stops is_junk) (λ ts. Read v (behind is_junk ts))
junk_then v = then_part (each_part is_junk) (λ _. weaken_part (Stops is_junk) (λ _ _. tt) (give_part v)) (λ _ y w rest h f. next_to (Stops is_junk) y rest h.0 f)

module _ {A : Type 0} (close : ℕ) (v : A) where
  pub closed_opens : (W : ℕ → Type 0) → W close → Opens (closed close v) W
  closed_opens W here = opens_then (one (same_byte close)) _ W (opens_one (same_byte close) W (λ t v e. subst W (sym (same_byte_is close t v e).0) here))

  pub closed_part : {Why : List ℕ → (ℕ → Bool) → Type 0} → IsClosing close → Part IsByte Why (closed close v) (closed close v) (Stops is_junk) (closed_reader close v)
  closed_part is = then_part (byte_part close (at_closing IsByte (omega arith) (omega arith) close is)) (λ _. junk_then v) (λ _ _ _ _ _ _. tt)

-- behind blanks, or none
pub behind_clear : {A : Type 0} (V : List ℕ → A → Type 0) → Opens V (λ t. is_blank t ≡ false) → (y : List ℕ) (w : A) (rest : List ℕ) → V y w → Clear none (y ++ rest)
behind_clear V opens y w rest h = let o = opens y w h in subst (λ x. Clear none (x ++ rest)) (sym o.2) (refl, o.3)

at_shut : (wide : Bool) (t : ℕ) (later : List ℕ) → IsClosing t → Shut wide (t ∷ later)
at_shut wide t later is = at_closing (λ b. Shut wide (b ∷ later)) (((refl, refl), refl), refl) (((refl, refl), refl), refl) t is

at_key_end : (t : ℕ) (later : List ℕ) → IsClosing t → Clear is_key_byte (t ∷ later)
at_key_end t later is = at_closing (λ b. Clear is_key_byte (b ∷ later)) (refl, refl) (refl, refl) t is

opening_begins : Opens opening (λ t. is_blank t ≡ false)
opening_begins = opening_opens (λ t. is_blank t ≡ false) refl refl

-- the word that begins an item

abbrev pub head : List ℕ → List ℕ → Type 0
head = mark 64 >> lower_word is_letter is_letter

abbrev pub head_reader : List ℕ → Outcome ℕ (List ℕ)
head_reader ts = and_then (read_mark 64 ts) (λ _. read_word is_letter is_letter (map lower) (λ b is. is))

pub head_part : {Why : List ℕ → (ℕ → Bool) → Type 0} → Part IsByte Why head head (Stops is_letter) head_reader
head_part =
    then_opens (λ t. is_blank t ≡ false) (mark_part 64 (omega arith)) (λ _. mapped_word_part is_letter is_letter (map lower) (λ b is. is) 97 refl (omega arith))
    (λ _. word_opens is_letter is_letter (map lower) (λ t. is_blank t ≡ false) (not_blank is_letter letter_apart)) (λ t later is. (refl, is))

module _ (macros : MacroTexts) where
  -- a macro's definition

  abbrev defined : Rules → ℕ → List ℕ → Phrase → Type 0
  defined rules close = name rules.wide >>= λ word. mark 61 >> (value rules >>= λ text. closed close (Defining word text))

  abbrev pub defined_reader : ℕ → List ℕ → Outcome ℕ Phrase
  defined_reader close ts = and_then (read_name macros.stand ts) (λ word ts. and_then (read_mark 61 ts) (λ _ ts. and_then (read_value macros ts) (λ text. closed_reader close (Defining word text))))

  defined_part : (close : ℕ) → IsClosing close → Part IsByte (IsLimit macros) (defined (strict macros) close) (defined (free macros) close) (Stops is_junk) (defined_reader close)
  defined_part close is =
      then_opens (λ t. nat_eq 61 t ≡ true) (name_part macros.stand)
      (λ word. then_opens (λ t. is_blank t ≡ false) (mark_part 61 (omega arith))
      (λ _. then_opens IsClosing (value_part macros) (λ text. closed_part close (Defining word text) is) (λ text. closed_opens close (Defining word text) IsClosing is) (λ t later k. (at_shut macros.stand t later k).0))
      (λ _. opens_then (value (free macros)) _ (λ t. is_blank t ≡ false) (value_begins macros))
      (λ t later k. (refl, k)))
      (λ word. opens_then (mark 61) _ (λ t. nat_eq 61 t ≡ true) (mark_opens 61 (λ t. nat_eq 61 t ≡ true) refl))
      (clear_byte macros.stand 61 refl refl)

  defined_in : (close : ℕ) (x : List ℕ) (w : Phrase) → defined (strict macros) close x w → defined (free macros) close x w
  defined_in close x w h = (h.0, h.1, h.2, h.3, h.4, (h.5.0, h.5.1, h.5.2, h.5.3, h.5.4, (h.5.5.0, h.5.5.1, h.5.5.2, h.5.5.3, part_within (value_part macros) h.5.5.0 h.5.5.2 h.5.5.4, h.5.5.5)))

  defined_begins : (close : ℕ) → Opens (defined (free macros) close) (λ t. is_blank t ≡ false)
  defined_begins close = opens_then (name macros.stand) _ (λ t. is_blank t ≡ false) (name_opens macros.stand (λ t. is_blank t ≡ false) (not_blank (begins_name macros.stand) (begin_apart macros.stand)))

  abbrev pub definition_reader : List ℕ → Outcome ℕ Phrase
  definition_reader ts = and_then (Read (tt {0}) (behind is_blank ts)) (λ _ ts. and_then (read_open ts) defined_reader)

  pub definition_part : Part IsByte (IsLimit macros) (definition (strict macros)) (definition (free macros)) (Stops is_junk) definition_reader
  definition_part =
      then_opens (λ t. is_blank t ≡ false) (blanks_part (tt {0}))
      (λ _. then_known IsClosing opening_closes opening_part defined_part defined_in (λ close is y w rest h f. behind_clear (defined (free macros) close) (defined_begins close) y w rest h))
      (λ _. opens_then opening _ (λ t. is_blank t ≡ false) opening_begins)
      (λ t later is. is)

  -- a preamble

  abbrev passed : Rules → ℕ → List ℕ → Phrase → Type 0
  passed rules close = value rules >> closed close Passing

  abbrev pub passed_reader : ℕ → List ℕ → Outcome ℕ Phrase
  passed_reader close ts = and_then (read_value macros ts) (λ _. closed_reader close Passing)

  passed_part : (close : ℕ) → IsClosing close → Part IsByte (IsLimit macros) (passed (strict macros) close) (passed (free macros) close) (Stops is_junk) (passed_reader close)
  passed_part close is = then_opens IsClosing (value_part macros) (λ _. closed_part close Passing is) (λ _. closed_opens close Passing IsClosing is) (λ t later k. (at_shut macros.stand t later k).0)

  passed_in : (close : ℕ) (x : List ℕ) (w : Phrase) → passed (strict macros) close x w → passed (free macros) close x w
  passed_in close x w h = (h.0, h.1, h.2, h.3, part_within (value_part macros) h.0 h.2 h.4, h.5)

  abbrev pub preamble_reader : List ℕ → Outcome ℕ Phrase
  preamble_reader ts = and_then (Read (tt {0}) (behind is_blank ts)) (λ _ ts. and_then (read_open ts) passed_reader)

  pub preamble_part : Part IsByte (IsLimit macros) (preamble (strict macros)) (preamble (free macros)) (Stops is_junk) preamble_reader
  preamble_part =
      then_opens (λ t. is_blank t ≡ false) (blanks_part (tt {0}))
      (λ _. then_known IsClosing opening_closes opening_part passed_part passed_in
      (λ close is y w rest h f. behind_clear (passed (free macros) close) (opens_then (value (free macros)) _ (λ t. is_blank t ≡ false) (value_begins macros)) y w rest h))
      (λ _. opens_then opening _ (λ t. is_blank t ≡ false) opening_begins)
      (λ t later is. is)

  -- an entry

  pub start_part : Part IsByte (IsLimit macros) (gap >> opening) (gap >> opening) (Clear none) (λ ts. and_then (Read (tt {0}) (behind is_blank ts)) (λ _. read_open))
  start_part = then_opens (λ t. is_blank t ≡ false) (blanks_part (tt {0})) (λ _. opening_part) (λ _. opening_begins) (λ t later is. is)

  abbrev entered : Rules → List ℕ → ℕ → ℕ × ℕ → List ℕ → Phrase → Type 0
  entered rules class before start = key >>= λ word. fields rules >>= λ found. closed start.0 (Entering (before + start.1) class word found)

  abbrev pub entered_reader : List ℕ → ℕ → ℕ × ℕ → List ℕ → Outcome ℕ Phrase
  entered_reader class before start ts = and_then (read_key ts) (λ word ts. and_then (read_fields macros ts) (λ found. closed_reader start.0 (Entering (before + start.1) class word found)))

  module _ (class : List ℕ) (before : ℕ) where
    abbrev rest_of : Rules → ℕ × ℕ → List ℕ → List ℕ → Phrase → Type 0
    rest_of rules start word = fields rules >>= λ found. closed start.0 (Entering (before + start.1) class word found)

    key_ends : (start : ℕ × ℕ) → IsClosing start.0 → (word : List ℕ) (y : List ℕ) (w : Phrase) (rest : List ℕ) → rest_of (free macros) start word y w → Clear is_key_byte (y ++ rest)
    key_ends start is word y w rest h =
        let o = closed_opens start.0 (Entering (before + start.1) class word h.2) IsClosing is h.1 w h.5 in
        let last : Clear is_key_byte (h.1 ++ rest) = subst (λ x. Clear is_key_byte (x ++ rest)) (sym o.2) (at_key_end o.0 (o.1 ++ rest) o.3) in
        subst (Clear is_key_byte) (sym (ap (λ x. x ++ rest) h.3 ∙ append_assoc h.0 h.1 rest)) (fields_follow macros (Clear is_key_byte) (λ later. (refl, refl)) h.0 h.2 (h.1 ++ rest) h.4 last)

    entered_part : (start : ℕ × ℕ) → IsClosing start.0 → Part IsByte (IsLimit macros) (entered (strict macros) class before start) (entered (free macros) class before start) (Stops is_junk) (entered_reader class before start)
    entered_part start is =
        then_part key_part
        (λ word. then_opens IsClosing (fields_part macros) (λ found. closed_part start.0 (Entering (before + start.1) class word found) is) (λ found. closed_opens start.0 (Entering (before + start.1) class word found) IsClosing is) (at_shut macros.stand))
        (λ word y w rest h f. key_ends start is word y w rest h)

    entered_in : (start : ℕ × ℕ) (x : List ℕ) (w : Phrase) → entered (strict macros) class before start x w → entered (free macros) class before start x w
    entered_in start x w h = (h.0, h.1, h.2, h.3, h.4, (h.5.0, h.5.1, h.5.2, h.5.3, fields_in macros h.5.0 h.5.2 h.5.4, h.5.5))

    entered_begins : (start : ℕ × ℕ) → Opens (entered (free macros) class before start) (λ t. is_blank t ≡ false)
    entered_begins start = opens_then key _ (λ t. is_blank t ≡ false) (key_opens (λ t. is_blank t ≡ false) (not_blank is_key_byte key_apart))
      where
        key_opens : (W : ℕ → Type 0) → ((b : ℕ) → is_key_byte b ≡ true → W b) → Opens key W
        key_opens W known = opens_then (word is_key_byte is_key_byte) _ W (word_opens is_key_byte is_key_byte (λ x. x) W known)

    abbrev pub entry_reader : List ℕ → Outcome ℕ Phrase
    entry_reader ts = and_then (read_sized start_part ts) (entered_reader class before)

    pub entry_part : Part IsByte (IsLimit macros) (entry (strict macros) class before) (entry (free macros) class before) (Stops is_junk) entry_reader
    entry_part =
        then_known (λ start. IsClosing start.0) (λ x start h. opening_closes h.0.1 start.0 h.0.5) (sized_part start_part) entered_part entered_in
        (λ start is y w rest h f. behind_clear (entered (free macros) class before start) (entered_begins start) y w rest h)

  -- by the word

  abbrev pub reader_of : Kind → List ℕ → ℕ → List ℕ → Outcome ℕ Phrase
  reader_of OfComment class before = comment_reader
  reader_of OfDefinition class before = definition_reader
  reader_of OfPreamble class before = preamble_reader
  reader_of OfEntry class before = entry_reader class before

  abbrev pub behind_reader : List ℕ → ℕ → List ℕ → Outcome ℕ Phrase
  behind_reader class before = reader_of (kind_of class) class before

  of_kind_part : (kind : Kind) (class : List ℕ) (before : ℕ) → Part IsByte (IsLimit macros) (of_kind kind (strict macros) class before) (of_kind kind (free macros) class before) (Stops is_junk) (reader_of kind class before)
  of_kind_part OfComment class before = comment_part
  of_kind_part OfDefinition class before = definition_part
  of_kind_part OfPreamble class before = preamble_part
  of_kind_part OfEntry class before = entry_part class before

  pub behind_part : (class : List ℕ) (before : ℕ) → Part IsByte (IsLimit macros) (behind_word (strict macros) class before) (behind_word (free macros) class before) (Stops is_junk) (behind_reader class before)
  behind_part class before = of_kind_part (kind_of class) class before

  -- no letter is first behind a word

  only_blanks : {x : List ℕ} {v : Unit {0}} → gap x v → Every (λ b. is_blank b ≡ true) x
  only_blanks {x} h = subst (λ y. Every (λ b. is_blank b ≡ true) y) (sym (h.3 ∙ ap (λ y. h.0 ++ y) h.5.0 ∙ append-nil h.0)) h.4.0

  blanks_unlettered : {A : Type 0} (V : List ℕ → A → Type 0) → Opens V (λ t. is_letter t ≡ false) → (x y : List ℕ) (w : A) (rest : List ℕ) → Every (λ b. is_blank b ≡ true) x → V y w → starts is_letter ((x ++ y) ++ rest) ≡ false
  blanks_unlettered V opens [] y w rest all h = let o = opens y w h in ap (λ z. starts is_letter (z ++ rest)) o.2 ∙ o.3
  blanks_unlettered V opens (b ∷ x) y w rest all h = letter_apart b all.0

  unlettered_by : (kind : Kind) (class : List ℕ) (before : ℕ) (y : List ℕ) (w : Phrase) (rest : List ℕ) → of_kind kind (free macros) class before y w → Stops is_junk rest → starts is_letter (y ++ rest) ≡ false
  unlettered_by OfComment class before y w rest h f = front_unlettered y rest h.0 f
  unlettered_by OfDefinition class before y w rest h f =
      ap (λ z. starts is_letter (z ++ rest)) h.3 ∙ blanks_unlettered (opening >>= defined (free macros)) (opens_then opening _ (λ t. is_letter t ≡ false) (opening_opens (λ t. is_letter t ≡ false) refl refl)) h.0 h.1 w rest (only_blanks h.4) h.5
  unlettered_by OfPreamble class before y w rest h f =
      ap (λ z. starts is_letter (z ++ rest)) h.3 ∙ blanks_unlettered (opening >>= passed (free macros)) (opens_then opening _ (λ t. is_letter t ≡ false) (opening_opens (λ t. is_letter t ≡ false) refl refl)) h.0 h.1 w rest (only_blanks h.4) h.5
  unlettered_by OfEntry class before y w rest h f =
      let start = h.4.0 in
      ap (λ z. starts is_letter (z ++ rest)) (h.3 ∙ ap (λ z. z ++ h.1) start.3) ∙ ap (λ z. starts is_letter z) (append_assoc (start.0 ++ start.1) h.1 rest)
      ∙ blanks_unlettered opening (opening_opens (λ t. is_letter t ≡ false) refl refl) start.0 start.1 h.2.0 (h.1 ++ rest) (only_blanks start.4) start.5

  -- an item

  abbrev pub item_reader : ℕ → List ℕ → Outcome ℕ Phrase
  item_reader at ts = and_then (read_sized (head_part {Why = IsLimit macros}) ts) (λ start. behind_reader start.0 (at + start.1))

  pub item_part : (at : ℕ) → Part IsByte (IsLimit macros) (item (strict macros) at) (item (free macros) at) (Stops is_junk) (item_reader at)
  item_part at =
      then_part (sized_part head_part) (λ start. behind_part start.0 (at + start.1))
      (λ start y w rest h f. unlettered_by (kind_of start.0) start.0 (at + start.1) y w rest h f)
