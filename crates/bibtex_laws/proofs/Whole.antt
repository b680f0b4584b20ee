-- The reader of a whole text finds its items, and otherwise the first byte at which the text leaves the grammar, or the
-- word that passes a limit.
use Rattle.std.proofs.Common.{◌≡◌, ℕ, Bool, List, [], ◌∷◌, ◌++◌, refl, sym, ap, ◌∙◌, append_assoc, inl, inr}
use Rattle.std.specs.Prelude.{◌⊎◌}
use Rattle.std.proofs.lemmas.List.{append-nil}
use Rattle.grammar.specs.Fault.{IsSpelled, IsFront}
use Rattle.grammar.specs.Reading.{Outcome, Read, Stuck, Past}
use Rattle.grammar.proofs.Laws.{IsPast}
use Rattle.bibtex_spec.specs.Macros.{MacroTexts}
use Rattle.bibtex_laws.proofs.Laws.{Unexpected}
use Rattle.bibtex_laws.specs.Grammar.{Phrase, strict, free, text}
use Rattle.bibtex_laws.specs.Limits.{IsByte, IsLimit}
use Rattle.bibtex_laws.specs.Faults.{IsFirstFault, IsPassedBy}
use Rattle.bibtex_laws.proofs.Items.{text_reader, text_part}

-- what is spelled within the rules is read
pub read_again : (first : MacroTexts) (bytes : List ℕ) (phrases : List Phrase) → text strict first bytes phrases → text_reader first bytes ≡ Read phrases []
read_again first bytes phrases h = ((text_part first).reads bytes).core.complete bytes phrases [] (sym (append-nil bytes)) h refl

-- no bytes spell two lists of phrases within the rules
pub one_text : (first : MacroTexts) (bytes : List ℕ) (v w : List Phrase) → text strict first bytes v → text strict first bytes w → v ≡ w
one_text first bytes v w h k =
    let a = read_again first bytes v h in
    let b = read_again first bytes w k in
    cc

not_both : (o : Outcome ℕ (List Phrase)) (rest : List ℕ) (v : List Phrase) → o ≡ Stuck rest → (o ≡ Read v []) ⊎ IsPast o → ⊥
not_both o rest v e (inl h) = cc
not_both o rest v e (inr h) = let past = h.1 in cc

not_spelled : (first : MacroTexts) (bytes rest : List ℕ) → text_reader first bytes ≡ Stuck rest → IsSpelled (text free first) bytes → ⊥
not_spelled first bytes rest e h = not_both (text_reader first bytes) rest h.0 e (((text_part first).reads bytes).core.accepts bytes h.0 [] (sym (append-nil bytes)) h.1 refl)

no_more : (first : MacroTexts) (bytes front : List ℕ) (t : ℕ) (r : List ℕ) → bytes ≡ front ++ (t ∷ r) → text_reader first bytes ≡ Stuck (t ∷ r) → IsFront IsByte (text free first) (front ++ t ∷ []) → ⊥
no_more first bytes front t r e h more =
    let whole : (front ++ t ∷ []) ++ more.0 ≡ front ++ (t ∷ more.0) = append_assoc front (t ∷ []) more.0 in
    let b : text_reader first (front ++ (t ∷ more.0)) ≡ Stuck (t ∷ more.0) = ((text_part first).reads bytes).core.local front t r more.0 Unexpected e h in
    not_spelled first ((front ++ t ∷ []) ++ more.0) (t ∷ more.0) (ap (text_reader first) whole ∙ b) (more.1, more.2)

pub is_first_fault : (first : MacroTexts) (bytes rest : List ℕ) → text_reader first bytes ≡ Stuck rest → IsFirstFault first bytes rest
is_first_fault first bytes rest h =
    let a = ((text_part first).reads bytes).viable rest h in
    record {
      front = a.0;
      parts = a.3;
      fits = (a.1, a.2, a.4, a.5);
      breaks = λ t later e. no_more first bytes a.0 t later (a.3 ∙ ap (λ x. a.0 ++ x) e) (h ∙ ap Stuck e);
      ends = λ _ spelled. not_spelled first bytes rest h spelled;
    }

pub is_passed : (first : MacroTexts) (bytes rest : List ℕ) → text_reader first bytes ≡ Past rest → (word : List ℕ) × (stops : ℕ → Bool) × IsLimit first word stops × IsPassedBy first word stops bytes rest
is_passed first bytes rest h =
    let a = ((text_part first).reads bytes).past rest h in (
      a.head ∷ a.tail,
      a.stops,
      a.why,
      record {
        front = a.front;
        later = a.later;
        parts = a.parts;
        is = a.is;
        ends = a.ends;
        fits = (a.more, a.value, a.fits, a.goes_on);
        more = a.next ∷ a.others;
        parted = a.parted;
        real = a.real;
        spelled = (a.found, a.spelled);
        past = λ other f spelled.
            let one = a.again other f in
            let two = read_again first (a.front ++ (a.head ∷ (a.tail ++ other))) spelled.0 spelled.1 in
            cc;
      },
    )
