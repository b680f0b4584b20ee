-- A macro's name within a value, and each piece of a value.
use Rattle.std.proofs.Common.{◌≡◌, ℕ, Bool, true, false, List, [], ◌∷◌, ◌++◌, Option, Some, None, refl, sym, ap, subst, ◌∙◌, inl, inr, arith}
use Rattle.std.specs.Prelude.{◌⊎◌, if◌then◌else◌}
use Rattle.grammar.specs.Fault.{Every}
use Rattle.grammar.specs.Reading.{Outcome, Read, Stuck, Past, and_then, starts}
use Rattle.grammar.proofs.Laws.{IsPast}
use Rattle.bibtex_laws.specs.Past.{IsPastAt}
use Rattle.bibtex_laws.proofs.Laws.{End, Value, Unexpected, answer, Core, IsViable, IsPassed}
use Rattle.bibtex_spec.specs.Bytes.{is_blank, is_name_byte, run, behind, begins_name}
use Rattle.bibtex_spec.specs.Macros.{MacroTexts, text_of}
use Rattle.bibtex_spec.specs.Values.{has_room}
use Rattle.bibtex_spec.specs.Reading.{read_written, read_macro, macro_read}
use Rattle.bibtex_laws.specs.Grammar.{strict, free, or_empty, macro, piece}
use Rattle.bibtex_laws.specs.Limits.{IsByte, IsLimit}
use Rattle.bibtex_laws.proofs.Words.{Clear, run_every, run_parts, run_exact, behind_stops}
use Rattle.bibtex_laws.proofs.Marks.{written_part, begins_in_name}

module _ (macros : MacroTexts) (before : List ℕ) where
  -- by what the name was, and what it stands for

  sound : (tokens : List ℕ) (o : Outcome ℕ (List ℕ)) → read_written macros.stand tokens ≡ o → (v rest : List ℕ) → and_then o (λ n r. macro_read before tokens r (text_of macros n)) ≡ Read v rest → (front : List ℕ) × (tokens ≡ front ++ rest) × macro (strict macros) before front v
  sound tokens (Stuck r) is v rest e = absurd cc
  sound tokens (Past r) is v rest e = absurd cc
  sound tokens (Read n r) is v rest e = by (text_of macros n) refl e
    where
      by : (o : Option (List ℕ)) → text_of macros n ≡ o → macro_read before tokens r o ≡ Read v rest → (front : List ℕ) × (tokens ≡ front ++ rest) × macro (strict macros) before front v
      by None stands e = absurd cc
      by (Some text) stands e = fit (has_room before text) refl e
        where
          fit : (p : Bool) → has_room before text ≡ p → (if p then Read text r else Past tokens) ≡ Read v rest → (front : List ℕ) × (tokens ≡ front ++ rest) × macro (strict macros) before front v
          fit false room e = absurd cc
          fit true room e =
              let a = ((written_part {Why = IsLimit macros} macros.stand).reads tokens).core.sound n r is in
              let left : r ≡ rest = cc in
              let same : text ≡ v = cc in
              (a.0, a.1 ∙ ap (λ x. a.0 ++ x) left, (n, a.2, (stands ∙ ap Some same, subst (λ x. has_room before x ≡ true) same room)))

  at_name : (tokens n r : List ℕ) (o : Option (List ℕ)) → read_written macros.stand tokens ≡ Read n r → text_of macros n ≡ o → read_macro macros before tokens ≡ macro_read before tokens r o
  unfolding read_macro
  at_name tokens n r o is stands = rw (is, stands) refl

  -- a text for which there is room, and one for which there isn't
  roomy : (tokens rest text : List ℕ) → has_room before text ≡ true → macro_read before tokens rest (Some text) ≡ Read text rest
  roomy tokens rest text is = rw is refl

  crowded : (tokens rest text : List ℕ) → has_room before text ≡ false → macro_read before tokens rest (Some text) ≡ Past tokens
  crowded tokens rest text is = rw is refl

  complete : (tokens front v rest : List ℕ) → tokens ≡ front ++ rest → macro (strict macros) before front v → Clear (is_name_byte macros.stand) rest → read_macro macros before tokens ≡ Read v rest
  complete tokens front v rest e h f =
      let a = ((written_part {Why = IsLimit macros} macros.stand).reads tokens).core.complete front h.0 rest e h.1 f in
      at_name tokens h.0 rest (Some v) a h.2.0 ∙ roomy tokens rest v h.2.1

  accepts : (tokens front v rest : List ℕ) → tokens ≡ front ++ rest → macro (free macros) before front v → Clear (is_name_byte macros.stand) rest → (read_macro macros before tokens ≡ Read v rest) ⊎ IsPast (read_macro macros before tokens)
  accepts tokens front v rest e h f = by (text_of macros h.0) refl h.2
    where
      found : read_written macros.stand tokens ≡ Read h.0 rest
      found = ((written_part {Why = IsLimit macros} macros.stand).reads tokens).core.complete front h.0 rest e h.1 f

      by : (o : Option (List ℕ)) → text_of macros h.0 ≡ o → v ≡ or_empty o → (read_macro macros before tokens ≡ Read v rest) ⊎ IsPast (read_macro macros before tokens)
      by (Some text) stands same = fit (has_room before text) refl
        where
          fit : (p : Bool) → has_room before text ≡ p → (read_macro macros before tokens ≡ Read v rest) ⊎ IsPast (read_macro macros before tokens)
          fit true room = inl (at_name tokens h.0 rest (Some text) found stands ∙ roomy tokens rest text room ∙ ap (λ x. Read x rest) (sym same))
          fit false room = inr (tokens, at_name tokens h.0 rest (Some text) found stands ∙ crowded tokens rest text room)
      by None stands same = inr (tokens, at_name tokens h.0 rest None found stands)

  local : (tokens : List ℕ) (o : Outcome ℕ (List ℕ)) → read_written macros.stand tokens ≡ o → (front : List ℕ) (t : ℕ) (r s : List ℕ) (p : End (List ℕ)) → tokens ≡ front ++ (t ∷ r) → and_then o (λ n r. macro_read before tokens r (text_of macros n)) ≡ answer p (t ∷ r) → read_macro macros before (front ++ (t ∷ s)) ≡ answer p (t ∷ s)
  unfolding read_macro
  local tokens (Past r0) is front t r s (Value v) e h = absurd cc
  local tokens (Past r0) is front t r s Unexpected e h = absurd cc
  local tokens (Stuck r0) is front t r s (Value v) e h = absurd cc
  local tokens (Stuck r0) is front t r s Unexpected e h =
      let left : r0 ≡ t ∷ r = cc in
      rw (((written_part {Why = IsLimit macros} macros.stand).reads tokens).core.local front t r s Unexpected e (is ∙ ap Stuck left)) refl
  local tokens (Read n r0) is front t r s p e h = by (text_of macros n) refl p h
    where
      by : (o : Option (List ℕ)) → text_of macros n ≡ o → (p : End (List ℕ)) → macro_read before tokens r0 o ≡ answer p (t ∷ r) → read_macro macros before (front ++ (t ∷ s)) ≡ answer p (t ∷ s)
      by None stands (Value v) h = absurd cc
      by None stands Unexpected h = absurd cc
      by (Some text) stands p h = fit (has_room before text) refl p h
        where
          fit : (room : Bool) → has_room before text ≡ room → (p : End (List ℕ)) → (if room then Read text r0 else Past tokens) ≡ answer p (t ∷ r) → read_macro macros before (front ++ (t ∷ s)) ≡ answer p (t ∷ s)
          fit false room Unexpected h = absurd cc
          fit false room (Value v) h = absurd cc
          fit true room Unexpected h = absurd cc
          fit true room (Value v) h =
              let left : r0 ≡ t ∷ r = cc in
              let same : text ≡ v = cc in
              let a = ((written_part {Why = IsLimit macros} macros.stand).reads tokens).core.local front t r s (Value n) e (is ∙ ap (Read n) left) in
              at_name (front ++ (t ∷ s)) n (t ∷ s) (Some text) a stands ∙ roomy (front ++ (t ∷ s)) (t ∷ s) text room ∙ ap (λ x. Read x (t ∷ s)) same

  pub macro_core : (tokens : List ℕ) → Core (macro (strict macros) before) (macro (free macros) before) (Clear (is_name_byte macros.stand)) (read_macro macros before) tokens
  unfolding read_macro
  macro_core tokens = record {
    sound = sound tokens (read_written macros.stand tokens) refl;
    complete = complete tokens;
    accepts = accepts tokens;
    local = local tokens (read_written macros.stand tokens) refl;
    within = λ x v h. (h.0, h.1, rw h.2.0 refl);
  }

  -- where it is stuck or past nothing was read

  -- what a name's reader does
  named : (tokens : List ℕ) → starts (begins_name macros.stand) tokens ≡ true → read_written macros.stand tokens ≡ Read (run (is_name_byte macros.stand) tokens) (behind is_blank (behind (is_name_byte macros.stand) tokens))
  unfolding read_written
  named tokens is = rw is refl

  unnamed : (tokens : List ℕ) → starts (begins_name macros.stand) tokens ≡ false → read_written macros.stand tokens ≡ Stuck tokens
  unfolding read_written
  unnamed tokens is = rw is refl

  nought : piece (strict macros) before (48 ∷ []) (48 ∷ [])
  nought = inl (48 ∷ [], [], 48 ∷ [], refl, (refl, (refl, tt), refl), ([], [], [], refl, (tt, refl), (refl, refl)))

  pub macro_stuck : (tokens : List ℕ) → IsViable IsByte (piece (strict macros) before) (read_macro macros before) tokens
  unfolding read_macro
  macro_stuck tokens rest e = by (starts (begins_name macros.stand) tokens) refl
    where
      by : (p : Bool) → starts (begins_name macros.stand) tokens ≡ p → (front : List ℕ) × (more : List ℕ) × (v : List ℕ) × (tokens ≡ front ++ rest) × piece (strict macros) before (front ++ more) v × Every IsByte more
      by false is =
          let h : Stuck tokens ≡ Stuck rest = sym (ap (λ o. and_then o (λ n r. macro_read before tokens r (text_of macros n))) (unnamed tokens is)) ∙ e in
          ([], 48 ∷ [], 48 ∷ [], cc, nought, (omega arith, tt))
      by true is = absurd (not (text_of macros (run (is_name_byte macros.stand) tokens)) refl)
        where
          not : (o : Option (List ℕ)) → text_of macros (run (is_name_byte macros.stand) tokens) ≡ o → ⊥
          not (Some text) stands = fit (has_room before text) refl
            where
              fit : (p : Bool) → has_room before text ≡ p → ⊥
              fit true room = let h = sym (roomy tokens (behind is_blank (behind (is_name_byte macros.stand) tokens)) text room) ∙ sym (at_name tokens (run (is_name_byte macros.stand) tokens) (behind is_blank (behind (is_name_byte macros.stand) tokens)) (Some text) (named tokens is) stands) ∙ e in cc
              fit false room = let h = sym (crowded tokens (behind is_blank (behind (is_name_byte macros.stand) tokens)) text room) ∙ sym (at_name tokens (run (is_name_byte macros.stand) tokens) (behind is_blank (behind (is_name_byte macros.stand) tokens)) (Some text) (named tokens is) stands) ∙ e in cc
          not None stands = let h = sym (at_name tokens (run (is_name_byte macros.stand) tokens) (behind is_blank (behind (is_name_byte macros.stand) tokens)) None (named tokens is) stands) ∙ e in cc

  -- a name that stands for nothing, or for a text for which there is no room
  refused : (b : ℕ) (bytes : List ℕ) → begins_name macros.stand b ≡ true → ((ts rs : List ℕ) → macro_read before ts rs (text_of macros (run (is_name_byte macros.stand) (b ∷ bytes))) ≡ Past ts)
      → IsPastAt IsByte (IsLimit macros) (piece (strict macros) before) (piece (free macros) before) (read_macro macros before) (b ∷ bytes) (b ∷ bytes)
  refused b bytes is passes =
      let belongs : is_name_byte macros.stand b ≡ true = begins_in_name macros.stand b is in
      let word : run (is_name_byte macros.stand) (b ∷ bytes) ≡ b ∷ run (is_name_byte macros.stand) bytes = rw belongs refl in
      let all : Every (λ x. is_name_byte macros.stand x ≡ true) (b ∷ run (is_name_byte macros.stand) bytes) = (belongs, run_every (is_name_byte macros.stand) bytes) in
      record {
        front = [];
        more = 48 ∷ [];
        value = 48 ∷ [];
        parts = refl;
        fits = nought;
        goes_on = (omega arith, tt);
        head = b;
        tail = run (is_name_byte macros.stand) bytes;
        later = behind (is_name_byte macros.stand) bytes;
        stops = (is_name_byte macros.stand);
        is = ap (λ x. b ∷ x) (run_parts (is_name_byte macros.stand) bytes);
        ends = behind_stops (is_name_byte macros.stand) bytes;
        next = 32;
        others = [];
        found = or_empty (text_of macros (b ∷ run (is_name_byte macros.stand) bytes));
        spelled = inr (inr (inr (
          b ∷ run (is_name_byte macros.stand) bytes,
          (b ∷ run (is_name_byte macros.stand) bytes, 32 ∷ [], b ∷ run (is_name_byte macros.stand) bytes, refl, (is, all, refl), (32 ∷ [], [], 32 ∷ [], refl, ((refl, tt), refl), (refl, refl))),
          refl,
        )));
        parted = refl;
        real = (omega arith, tt);
        why = inr (is, all, refl);
        again = λ s f.
            let a = run_exact (is_name_byte macros.stand) (b ∷ run (is_name_byte macros.stand) bytes) s all f in
            let whole : List ℕ = b ∷ (run (is_name_byte macros.stand) bytes ++ s) in
            let rest : List ℕ = behind is_blank (behind (is_name_byte macros.stand) whole) in
            let same : run (is_name_byte macros.stand) whole ≡ run (is_name_byte macros.stand) (b ∷ bytes) = a.0 ∙ sym word in
            at_name whole (run (is_name_byte macros.stand) whole) rest (text_of macros (run (is_name_byte macros.stand) whole)) (named whole is) refl
            ∙ ap (λ x. macro_read before whole rest (text_of macros x)) same ∙ passes whole rest;
      }

  pub macro_past : (tokens : List ℕ) → IsPassed IsByte (IsLimit macros) (piece (strict macros) before) (piece (free macros) before) (read_macro macros before) tokens
  unfolding read_macro
  macro_past tokens rest e = by tokens (starts (begins_name macros.stand) tokens) refl e
    where
      by : (tokens : List ℕ) (p : Bool) → starts (begins_name macros.stand) tokens ≡ p → read_macro macros before tokens ≡ Past rest → IsPastAt IsByte (IsLimit macros) (piece (strict macros) before) (piece (free macros) before) (read_macro macros before) tokens rest
      by tokens false is e =
          let h : Stuck tokens ≡ Past rest = sym (ap (λ o. and_then o (λ n r. macro_read before tokens r (text_of macros n))) (unnamed tokens is)) ∙ e in
          absurd cc
      by [] true is e = absurd cc
      by (b ∷ bytes) true is e = stood (text_of macros (run (is_name_byte macros.stand) (b ∷ bytes))) refl
        where
          at_word : ((ts rs : List ℕ) → macro_read before ts rs (text_of macros (run (is_name_byte macros.stand) (b ∷ bytes))) ≡ Past ts) → IsPastAt IsByte (IsLimit macros) (piece (strict macros) before) (piece (free macros) before) (read_macro macros before) (b ∷ bytes) rest
          at_word passes =
              let later : List ℕ = behind is_blank (behind (is_name_byte macros.stand) (b ∷ bytes)) in
              let h : Past (b ∷ bytes) ≡ Past rest = sym (passes (b ∷ bytes) later) ∙ sym (at_name (b ∷ bytes) (run (is_name_byte macros.stand) (b ∷ bytes)) later (text_of macros (run (is_name_byte macros.stand) (b ∷ bytes))) (named (b ∷ bytes) is) refl) ∙ e in
              let left : b ∷ bytes ≡ rest = cc in
              subst (IsPastAt IsByte (IsLimit macros) (piece (strict macros) before) (piece (free macros) before) (read_macro macros before) (b ∷ bytes)) left (refused b bytes is passes)

          stood : (o : Option (List ℕ)) → text_of macros (run (is_name_byte macros.stand) (b ∷ bytes)) ≡ o → IsPastAt IsByte (IsLimit macros) (piece (strict macros) before) (piece (free macros) before) (read_macro macros before) (b ∷ bytes) rest
          stood None stands = at_word (λ ts rs. rw stands refl)
          stood (Some text) stands = fit (has_room before text) refl
            where
              fit : (p : Bool) → has_room before text ≡ p → IsPastAt IsByte (IsLimit macros) (piece (strict macros) before) (piece (free macros) before) (read_macro macros before) (b ∷ bytes) rest
              fit true room = absurd (let h = sym (roomy (b ∷ bytes) (behind is_blank (behind (is_name_byte macros.stand) (b ∷ bytes))) text room) ∙ sym (at_name (b ∷ bytes) (run (is_name_byte macros.stand) (b ∷ bytes)) (behind is_blank (behind (is_name_byte macros.stand) (b ∷ bytes))) (Some text) (named (b ∷ bytes) is) stands) ∙ e in cc)
              fit false room = at_word (λ ts rs. rw stands (crowded ts rs text room))
