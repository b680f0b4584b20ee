-- Loops that read phrases one after the other.
use Rattle.std.proofs.Common.{◌≡◌, ◌<◌, ◌≤◌, ℕ, zero, suc, Bool, true, false, List, [], ◌∷◌, ◌++◌, length, refl, sym, ap, ◌∙◌, append_assoc, arith}
use Rattle.std.specs.Prelude.{nat_eq}
use Rattle.grammar.specs.Reading.{Outcome, Read, Stuck, Past, and_then, starts, iterate, iterate_within, with_front}
use Rattle.bibtex_source.specs.declared.halt.Halt.{Halt}
use Rattle.bibtex_source.specs.declared.halt.Halt.TheVariants.{Expected, Limit, NoMemory}
use Rattle.bibtex_spec.specs.declared.Field.{Field}
use Rattle.bibtex_spec.specs.Bytes.{begins_name}
use Rattle.bibtex_spec.specs.Macros.{MacroTexts}
use Rattle.bibtex_source.specs.Gives.{Fails}
use Rattle.bibtex_spec.specs.Reading.{read_mark, read_field, listed, read_fields}

with_more : {A : Type 0} (front : List A) (v : A) (o : Outcome ℕ (List A)) → with_front front (and_then o (λ values last. Read (v ∷ values) last)) ≡ with_front (front ++ v ∷ []) o
with_more front v (Read values rest) = ap (λ vs. Read vs rest) (sym (append_assoc front (v ∷ []) values))
with_more front v (Stuck rest) = refl
with_more front v (Past rest) = refl

starts_none : (first : ℕ → Bool) (rest : List ℕ) → length rest ≤ 0 → starts first rest ≡ true → ⊥
starts_none first [] few is = cc
starts_none first (b ∷ rest) few is = omega (arith, few)

module _ {S : Type 0} (first : ℕ → Bool) (step : S → List ℕ → Outcome ℕ S) where
  -- the steps that were taken led to `state`, and `rest` is still to be read
  pub record IsIterated (state : S) (rest : List ℕ) (total : Outcome ℕ S) : Type 0 where
    pub turns : ℕ
    pub enough : length rest ≤ turns
    pub so_far : iterate_within first step turns state rest ≡ total

  pub starts_so : (state : S) (bytes : List ℕ) → IsIterated state bytes (iterate first step state bytes)
  unfolding iterate
  starts_so state bytes = record { turns = length bytes; enough = omega arith; so_far = refl }

  pub goes_on : (state next : S) (rest after : List ℕ) (total : Outcome ℕ S) → starts first rest ≡ true → step state rest ≡ Read next after → length after < length rest
      → IsIterated state rest total → IsIterated next after total
  goes_on state next rest after total is was shorter so_far = by so_far.turns so_far.enough so_far.so_far
    where
      by : (n : ℕ) → length rest ≤ n → iterate_within first step n state rest ≡ total → IsIterated next after total
      by zero few e = absurd (starts_none first rest few is)
      by (suc n) enough e =
          let here : iterate_within first step (suc n) state rest ≡ iterate_within first step n next after = rw (is, was) refl in
          record { turns = n; enough = omega (arith, enough, shorter); so_far = sym here ∙ e }

  pub ends_in : (state : S) (rest : List ℕ) (total : Outcome ℕ S) (e : Halt) → starts first rest ≡ true → Fails e (step state rest) → IsIterated state rest total → Fails e total
  ends_in state rest total e is was so_far = by so_far.turns so_far.enough so_far.so_far e was
    where
      by : (n : ℕ) → length rest ≤ n → iterate_within first step n state rest ≡ total → (e : Halt) → Fails e (step state rest) → Fails e total
      by n enough h NoMemory was = tt
      by zero few h (Expected left) was = absurd (starts_none first rest few is)
      by zero few h (Limit left) was = absurd (starts_none first rest few is)
      by (suc n) enough h (Expected left) was =
          let here : iterate_within first step (suc n) state rest ≡ Stuck left.now = rw (is, was) refl in
          sym h ∙ here
      by (suc n) enough h (Limit left) was =
          let here : iterate_within first step (suc n) state rest ≡ Past left.now = rw (is, was) refl in
          sym h ∙ here

  pub done : (state : S) (rest : List ℕ) (total : Outcome ℕ S) → starts first rest ≡ false → IsIterated state rest total → total ≡ Read state rest
  done state rest total is so_far = by so_far.turns so_far.so_far
    where
      by : (n : ℕ) → iterate_within first step n state rest ≡ total → total ≡ Read state rest
      by zero e = sym e
      by (suc n) e =
          let here : iterate_within first step (suc n) state rest ≡ Read state rest = rw is refl in
          sym e ∙ here

-- the fields of an entry

module _ (macros : MacroTexts) where
  pub record IsListed (front : List Field) (rest : List ℕ) (total : Outcome ℕ (List Field)) : Type 0 where
    pub turns : ℕ
    pub enough : length rest ≤ turns
    pub so_far : with_front front (listed macros turns rest) ≡ total

  pub nothing_listed : (bytes : List ℕ) → IsListed [] bytes (read_fields macros bytes)
  unfolding read_fields
  nothing_listed bytes = record { turns = length bytes; enough = omega arith; so_far = nothing_yet (listed macros (length bytes) bytes) }
    where
      nothing_yet : (o : Outcome ℕ (List Field)) → with_front [] o ≡ o
      nothing_yet (Read values rest) = refl
      nothing_yet (Stuck rest) = refl
      nothing_yet (Past rest) = refl

  pub field_listed : (front : List Field) (rest inner after : List ℕ) (mark : ℕ) (field : Field) (total : Outcome ℕ (List Field)) → starts (nat_eq 44) rest ≡ true → read_mark 44 rest ≡ Read mark inner
      → starts (begins_name macros.stand) inner ≡ true → read_field macros inner ≡ Read field after → length after < length rest → IsListed front rest total → IsListed (front ++ field ∷ []) after total
  field_listed front rest inner after mark field total is marked letter was shorter so_far = by so_far.turns so_far.enough so_far.so_far
    where
      by : (n : ℕ) → length rest ≤ n → with_front front (listed macros n rest) ≡ total → IsListed (front ++ field ∷ []) after total
      by zero few e = absurd (starts_none (nat_eq 44) rest few is)
      by (suc n) enough e =
          let here : listed macros (suc n) rest ≡ and_then (listed macros n after) (λ fields last. Read (field ∷ fields) last) = rw (is, marked, letter, was) refl in
          record {
            turns = n;
            enough = omega (arith, enough, shorter);
            so_far = sym (with_more front field (listed macros n after)) ∙ ap (with_front front) (sym here) ∙ e;
          }
