-- The steps of a text are those that its grammar gives.
use Rattle.std.proofs.Common.{◌≡◌, ◌+◌, ◌-◌, ◌≤◌, ◌<◌, ℕ, zero, suc, false, List, [], ◌∷◌, ◌++◌, length, refl, sym, ap, subst, ◌∙◌, append_assoc, inl, inr, arith}
use Rattle.std.specs.Prelude.{◌⊎◌}
use Rattle.grammar.specs.Reading.{Outcome, Read, Stuck, Past, and_then, starts}
use Rattle.graph_spec.specs.DataGraph.{Name}
use Rattle.sd_graph.specs.Stating.{fails}
use Rattle.bibtex_spec.specs.declared.Item.{Item}
use Rattle.bibtex_spec.specs.declared.Item.TheVariants.{Passes, Defines, Enters}
use Rattle.bibtex_spec.specs.Bytes.{is_junk, behind}
use Rattle.bibtex_spec.specs.Macros.{MacroTexts}
use Rattle.bibtex_spec.specs.Reading.{read_item}
use Rattle.bibtex_laws.specs.Grammar.{Phrase, strict, sized, item, items, macros_behind as macros_left}
use Rattle.bibtex_laws.proofs.Words.{run_none, behind_stops}
use Rattle.bibtex_laws.proofs.Known.{sized_part}
use Rattle.bibtex_laws.proofs.Entries.{item_reader, item_part}
use Rattle.bibtex_laws.proofs.Same.{phrase_of, up_to_next, item_same, junk_once}
use Rattle.bibtex_laws.proofs.Items.{sized_reader, items_reader, items_turn, item_shrinks}
use Rattle.bibtex_source.specs.Source.{Source}
use Rattle.bibtex_source.specs.declared.refusal.BibRefusal.{BibRefusal}
use Rattle.bibtex_source.specs.declared.refusal.BibRefusal.TheVariants.{Expected}
use Rattle.bibtex_source.specs.Text.{BibStep, limit_fault, item_steps, macros_behind, read_steps, marked_steps, steps_within}
use Rattle.bibtex_source.specs.Text.{entry_of, read_entries, marked_entries, entries_within}
use Rattle.bibtex_source.specs.Spelled.{phrase_steps, phrases_steps, phrase_entry, phrases_entries, macros_after}
use Rattle.bibtex_spec.specs.declared.Field.{Field}

-- an item and its phrase

same_macros : (whole : ℕ) (macros : MacroTexts) (it : Item) → macros_behind macros it ≡ macros_left macros (phrase_of whole it)
same_macros whole macros Passes = refl
same_macros whole macros (Defines word found) = refl
same_macros whole macros (Enters entry) = refl

same_steps : (source : Source) (stem : Name) (whole : ℕ) (it : Item) → item_steps source stem whole it ≡ phrase_steps source stem (phrase_of whole it)
same_steps source stem whole Passes = refl
same_steps source stem whole (Defines word found) = refl
same_steps source stem whole (Enters entry) = refl

same_entry : (whole : ℕ) (it : Item) → entry_of it ≡ phrase_entry (phrase_of whole it)
same_entry whole Passes = refl
same_entry whole (Defines word found) = refl
same_entry whole (Enters entry) = refl

abbrev Entries : Type 0
Entries = List (Name × List Field)

module _ (source : Source) (stem : Name) (whole : ℕ) where
  -- how a reader that ends without a value is told
  abbrev pub IsEnd : MacroTexts → Outcome ℕ (List Phrase) → List ℕ → BibRefusal → Type 0
  IsEnd macros read rest e = ((read ≡ Stuck rest) × (e ≡ Expected (whole - length rest))) ⊎ ((read ≡ Past rest) × (e ≡ limit_fault whole macros rest))

  pub record IsLeft (macros : MacroTexts) (at : ℕ) (bytes : List ℕ) (steps : List BibStep) (entries : Entries) : Type 0 where
    pub front : List ℕ
    pub back : List ℕ
    pub phrases : List Phrase
    pub rest : List ℕ
    pub fault : BibRefusal
    pub parts : bytes ≡ front ++ back
    pub spelled : items strict macros at front phrases
    pub no_more : (spot : ℕ) (x later : List ℕ) (phrase : Phrase) → back ≡ x ++ later → starts is_junk later ≡ false → item (strict (macros_after macros phrases)) spot x phrase → ⊥
    pub steps_are : steps ≡ phrases_steps source stem phrases ++ fails fault ∷ []
    pub entries_are : entries ≡ phrases_entries phrases
    pub ends : IsEnd (macros_after macros phrases) (items_reader macros at bytes) rest fault

  abbrev pub IsWalked : MacroTexts → ℕ → List ℕ → List BibStep → Entries → Type 0
  IsWalked macros at bytes steps entries =
      ((phrases : List Phrase) × items strict macros at bytes phrases × (steps ≡ phrases_steps source stem phrases) × (entries ≡ phrases_entries phrases)) ⊎ IsLeft macros at bytes steps entries

  -- the items from an `@` on, where no junk is first

  pub junk_past : (n : ℕ) (macros : MacroTexts) (bytes : List ℕ) → steps_within n source stem whole macros (behind is_junk bytes) ≡ steps_within n source stem whole macros bytes
  junk_past zero macros bytes = refl
  junk_past (suc n) macros bytes = ap (marked_steps source stem whole macros (steps_within n source stem whole)) (junk_once bytes)

  pub junk_past_entries : (n : ℕ) (macros : MacroTexts) (bytes : List ℕ) → entries_within n macros (behind is_junk bytes) ≡ entries_within n macros bytes
  junk_past_entries zero macros bytes = refl
  junk_past_entries (suc n) macros bytes = ap (marked_entries macros (entries_within n)) (junk_once bytes)

  end_more : (macros : MacroTexts) (phrase : Phrase) (read total : Outcome ℕ (List Phrase)) (rest : List ℕ) (e : BibRefusal) → total ≡ and_then read (λ others last. Read (phrase ∷ others) last) → IsEnd macros read rest e → IsEnd macros total rest e
  end_more macros phrase read total rest e is (inl h) = inl (is ∙ ap (λ o. and_then o (λ others last. Read (phrase ∷ others) last)) h.0, h.1)
  end_more macros phrase read total rest e is (inr h) = inr (is ∙ ap (λ o. and_then o (λ others last. Read (phrase ∷ others) last)) h.0, h.1)

  module _ (macros : MacroTexts) (at b : ℕ) (bytes : List ℕ) (place : at + length (b ∷ bytes) ≡ whole) where
    item_read : item_reader macros at (b ∷ bytes) ≡ up_to_next whole (read_item macros (b ∷ bytes))
    item_read = item_same macros at (b ∷ bytes) ∙ ap (λ n. up_to_next n (read_item macros (b ∷ bytes))) place

    at_once : (o : Outcome ℕ Item) → read_item macros (b ∷ bytes) ≡ o → item_reader macros at (b ∷ bytes) ≡ up_to_next whole o
    at_once o was = item_read ∙ ap (up_to_next whole) was

    stuck_items : (rest : List ℕ) → read_item macros (b ∷ bytes) ≡ Stuck rest → items_reader macros at (b ∷ bytes) ≡ Stuck rest
    stuck_items rest was =
        let a : item_reader macros at (b ∷ bytes) ≡ Stuck rest = at_once (Stuck rest) was in
        items_turn macros at (b ∷ bytes) ∙ (rw a refl)

    past_items : (rest : List ℕ) → read_item macros (b ∷ bytes) ≡ Past rest → items_reader macros at (b ∷ bytes) ≡ Past rest
    past_items rest was =
        let a : item_reader macros at (b ∷ bytes) ≡ Past rest = at_once (Past rest) was in
        items_turn macros at (b ∷ bytes) ∙ (rw a refl)

    module _ (it : Item) (rest : List ℕ) (was : read_item macros (b ∷ bytes) ≡ Read it rest) where
      one_item : item_reader macros at (b ∷ bytes) ≡ Read (phrase_of whole it) (behind is_junk rest)
      one_item = at_once (Read it rest) was

      one_sized : sized_reader macros at (b ∷ bytes) ≡ Read (phrase_of whole it, length (b ∷ bytes) - length (behind is_junk rest)) (behind is_junk rest)
      one_sized = rw one_item refl

      more_items : items_reader macros at (b ∷ bytes) ≡ and_then (items_reader (macros_left macros (phrase_of whole it)) (at + (length (b ∷ bytes) - length (behind is_junk rest))) (behind is_junk rest)) (λ others last. Read (phrase_of whole it ∷ others) last)
      more_items = items_turn macros at (b ∷ bytes) ∙ (rw one_item refl)

      later_walked : (steps : List BibStep) (entries : Entries) → IsWalked (macros_left macros (phrase_of whole it)) (at + (length (b ∷ bytes) - length (behind is_junk rest))) (behind is_junk rest) steps entries
          → IsWalked macros at (b ∷ bytes) (item_steps source stem whole it ++ steps) (entry_of it ++ entries)
      later_walked steps entries walked = by walked
        where
          sound : (front : List ℕ) × (b ∷ bytes ≡ front ++ behind is_junk rest) × sized (item (strict macros) at) front (phrase_of whole it, length (b ∷ bytes) - length (behind is_junk rest))
          sound = ((sized_part (item_part macros at)).reads (b ∷ bytes)).core.sound (phrase_of whole it, length (b ∷ bytes) - length (behind is_junk rest)) (behind is_junk rest) one_sized

          shift : (n : ℕ) → length (b ∷ bytes) - length (behind is_junk rest) ≡ n → (x : List ℕ) (phrases : List Phrase) → items strict (macros_left macros (phrase_of whole it)) (at + (length (b ∷ bytes) - length (behind is_junk rest))) x phrases → items strict (macros_left macros (phrase_of whole it)) (at + n) x phrases
          shift n e x phrases h = subst (λ m. items strict (macros_left macros (phrase_of whole it)) (at + m) x phrases) e h

          entries_more : (phrases : List Phrase) → entries ≡ phrases_entries phrases → entry_of it ++ entries ≡ phrases_entries (phrase_of whole it ∷ phrases)
          entries_more phrases e = ap (λ x. x ++ entries) (same_entry whole it) ∙ ap (λ x. phrase_entry (phrase_of whole it) ++ x) e

          by : IsWalked (macros_left macros (phrase_of whole it)) (at + (length (b ∷ bytes) - length (behind is_junk rest))) (behind is_junk rest) steps entries → IsWalked macros at (b ∷ bytes) (item_steps source stem whole it ++ steps) (entry_of it ++ entries)
          by (inl h) = inl (phrase_of whole it ∷ h.0, (sound.0, behind is_junk rest, sound.1, sound.2.0, shift (length sound.0) sound.2.1 (behind is_junk rest) h.0 h.1), ap (λ x. x ++ steps) (same_steps source stem whole it) ∙ ap (λ x. phrase_steps source stem (phrase_of whole it) ++ x) h.2, entries_more h.0 h.3)
          by (inr h) = inr (record {
            front = sound.0 ++ h.front;
            back = h.back;
            phrases = phrase_of whole it ∷ h.phrases;
            rest = h.rest;
            fault = h.fault;
            parts = sound.1 ∙ ap (λ x. sound.0 ++ x) h.parts ∙ sym (append_assoc sound.0 h.front h.back);
            spelled = (sound.0, h.front, refl, sound.2.0, shift (length sound.0) sound.2.1 h.front h.phrases h.spelled);
            no_more = h.no_more;
            steps_are = ap (λ x. x ++ steps) (same_steps source stem whole it) ∙ ap (λ x. phrase_steps source stem (phrase_of whole it) ++ x) h.steps_are ∙ sym (append_assoc (phrase_steps source stem (phrase_of whole it)) (phrases_steps source stem h.phrases) (fails h.fault ∷ []));
            entries_are = entries_more h.phrases h.entries_are;
            ends = end_more (macros_after (macros_left macros (phrase_of whole it)) h.phrases) (phrase_of whole it) (items_reader (macros_left macros (phrase_of whole it)) (at + (length (b ∷ bytes) - length (behind is_junk rest))) (behind is_junk rest)) (items_reader macros at (b ∷ bytes)) h.rest h.fault more_items h.ends;
          })

  -- no item stands where none is read

  module _ (macros : MacroTexts) (b : ℕ) (bytes rest : List ℕ) where
    stuck_item : read_item macros (b ∷ bytes) ≡ Stuck rest → (spot : ℕ) (x later : List ℕ) (phrase : Phrase) → b ∷ bytes ≡ x ++ later → starts is_junk later ≡ false → item (strict macros) spot x phrase → ⊥
    stuck_item was spot x later phrase e marked h =
        let a : item_reader macros spot (b ∷ bytes) ≡ Stuck rest = item_same macros spot (b ∷ bytes) ∙ ap (up_to_next (spot + length (b ∷ bytes))) was in
        let c : item_reader macros spot (b ∷ bytes) ≡ Read phrase later = ((item_part macros spot).reads (b ∷ bytes)).core.complete x phrase later e h marked in
        cc

    past_item : read_item macros (b ∷ bytes) ≡ Past rest → (spot : ℕ) (x later : List ℕ) (phrase : Phrase) → b ∷ bytes ≡ x ++ later → starts is_junk later ≡ false → item (strict macros) spot x phrase → ⊥
    past_item was spot x later phrase e marked h =
        let a : item_reader macros spot (b ∷ bytes) ≡ Past rest = item_same macros spot (b ∷ bytes) ∙ ap (up_to_next (spot + length (b ∷ bytes))) was in
        let c : item_reader macros spot (b ∷ bytes) ≡ Read phrase later = ((item_part macros spot).reads (b ∷ bytes)).core.complete x phrase later e h marked in
        cc

  one_walked : (n : ℕ) (macros : MacroTexts) (at b : ℕ) (bytes : List ℕ) → length (b ∷ bytes) ≤ suc n → at + length (b ∷ bytes) ≡ whole
      → ((now : MacroTexts) (place : ℕ) (rest : List ℕ) → length rest ≤ n → place + length rest ≡ whole → starts is_junk rest ≡ false → IsWalked now place rest (steps_within n source stem whole now rest) (entries_within n now rest))
      → (o : Outcome ℕ Item) → read_item macros (b ∷ bytes) ≡ o → IsWalked macros at (b ∷ bytes) (read_steps source stem whole macros (steps_within n source stem whole) o) (read_entries macros (entries_within n) o)
  one_walked n macros at b bytes few place again (Stuck rest) was =
      inr (record { front = []; back = b ∷ bytes; phrases = []; rest = rest; fault = Expected (whole - length rest); parts = refl; spelled = refl; no_more = stuck_item macros b bytes rest was; steps_are = refl; entries_are = refl; ends = inl (stuck_items macros at b bytes place rest was, refl) })
  one_walked n macros at b bytes few place again (Past rest) was =
      inr (record { front = []; back = b ∷ bytes; phrases = []; rest = rest; fault = limit_fault whole macros rest; parts = refl; spelled = refl; no_more = past_item macros b bytes rest was; steps_are = refl; entries_are = refl; ends = inr (past_items macros at b bytes place rest was, refl) })
  one_walked n macros at b bytes few place again (Read it rest) was =
      let less : length (behind is_junk rest) < length (b ∷ bytes) = item_shrinks macros at (b ∷ bytes) (phrase_of whole it, length (b ∷ bytes) - length (behind is_junk rest)) (behind is_junk rest) (one_sized macros at b bytes place it rest was) in
      let others = again (macros_left macros (phrase_of whole it)) (at + (length (b ∷ bytes) - length (behind is_junk rest))) (behind is_junk rest) (omega (arith, few, less)) (omega (arith, place, less)) (behind_stops is_junk rest) in
      let steps_same : steps_within n source stem whole (macros_left macros (phrase_of whole it)) (behind is_junk rest) ≡ steps_within n source stem whole (macros_behind macros it) rest =
      junk_past n (macros_left macros (phrase_of whole it)) rest ∙ ap (λ m. steps_within n source stem whole m rest) (sym (same_macros whole macros it)) in
      let entries_same : entries_within n (macros_left macros (phrase_of whole it)) (behind is_junk rest) ≡ entries_within n (macros_behind macros it) rest =
      junk_past_entries n (macros_left macros (phrase_of whole it)) rest ∙ ap (λ m. entries_within n m rest) (sym (same_macros whole macros it)) in
      let walked = later_walked macros at b bytes place it rest was (steps_within n source stem whole (macros_left macros (phrase_of whole it)) (behind is_junk rest)) (entries_within n (macros_left macros (phrase_of whole it)) (behind is_junk rest)) others in
      subst (λ x. IsWalked macros at (b ∷ bytes) (item_steps source stem whole it ++ steps_within n source stem whole (macros_behind macros it) rest) (entry_of it ++ x)) entries_same
      (subst (λ x. IsWalked macros at (b ∷ bytes) (item_steps source stem whole it ++ x) (entry_of it ++ entries_within n (macros_left macros (phrase_of whole it)) (behind is_junk rest))) steps_same walked)

  pub walk : (n : ℕ) (macros : MacroTexts) (at : ℕ) (bytes : List ℕ) → length bytes ≤ n → at + length bytes ≡ whole → starts is_junk bytes ≡ false → IsWalked macros at bytes (steps_within n source stem whole macros bytes) (entries_within n macros bytes)
  walk zero macros at [] few place marked = inl ([], refl, refl, refl)
  walk zero macros at (b ∷ bytes) few place marked = absurd (omega (arith, few))
  walk (suc n) macros at [] few place marked = inl ([], refl, refl, refl)
  walk (suc n) macros at (b ∷ bytes) few place marked =
      subst (λ x. IsWalked macros at (b ∷ bytes) (marked_steps source stem whole macros (steps_within n source stem whole) x) (marked_entries macros (entries_within n) x)) (sym (run_none is_junk (b ∷ bytes) marked).1)
      (one_walked n macros at b bytes few place (λ now spot rest less is junk. walk n now spot rest less is junk) (read_item macros (b ∷ bytes)) refl)
