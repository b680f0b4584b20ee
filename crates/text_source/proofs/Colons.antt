-- The label before a colon.
use Rattle.std.specs.Prelude.{◌≡◌, ◌+◌, ◌-◌, ◌==◌, ◌&&◌, ℕ, Bool, true, false, nat_eq, List, [], ◌∷◌, length, take, Option, Some, None, if◌then◌else◌}
use Rattle.std.proofs.Common.{refl, ap, ◌∙◌, arith, inl, inr}
use Rattle.std.proofs.lemmas.Bool.{cases_Bool, eqb-true}
use Rattle.text_source.specs.Values.{trimmed}
use Rattle.text_source.specs.Front.{is_apart, after_colon, before_colon, labelled, field_of, field, other}

pub lengths : (text rest : List ℕ) → after_colon text ≡ Some rest → length rest + 1 + length (before_colon text) ≡ length text
lengths [] rest h = absurd cc
lengths (b ∷ text) rest h = elim (cases_Bool (nat_eq b 58 && is_apart text)) [
  | inl colon ↦
      let f = rw colon at h in
      let e : text ≡ rest = cc in
      rw (colon, e) (omega arith)
  | inr different ↦
      let left : after_colon text ≡ Some rest = rw different at h in
      rw different (omega (arith, lengths text rest left))
]

pub front_is : (text : List ℕ) → before_colon text ≡ take (length (before_colon text)) text
front_is [] = refl
front_is (b ∷ text) = elim (cases_Bool (nat_eq b 58 && is_apart text)) [
  | inl colon ↦ rw colon refl
  | inr different ↦ rw different (ap (λ x. b ∷ x) (front_is text))
]

-- the label is so many of the first bytes
pub label_is : (text rest : List ℕ) → after_colon text ≡ Some rest → before_colon text ≡ take (length text - length rest - 1) text
label_is text rest h =
    let n = lengths text rest h in
    let count : length (before_colon text) ≡ length text - length rest - 1 = omega (arith, n) in
    front_is text ∙ ap (λ k. take k text) count

empty_label : (label rest : List ℕ) → (length label == 0) ≡ true → labelled label (Some rest) ≡ other
empty_label [] rest h = refl
empty_label (b ∷ label) rest h = absurd (omega (arith, eqb-true (length (b ∷ label)) 0 h))

shown_label : (label rest : List ℕ) → (length label == 0) ≡ false → labelled label (Some rest) ≡ field (trimmed label) (trimmed rest)
shown_label [] rest h = absurd cc
shown_label (b ∷ label) rest h = refl

pub no_label : (text rest : List ℕ) → after_colon text ≡ Some rest → (length (before_colon text) == 0) ≡ true → field_of text ≡ other
no_label text rest h k = rw h (empty_label (before_colon text) rest k)

pub some_label : (text rest : List ℕ) → after_colon text ≡ Some rest → (length (before_colon text) == 0) ≡ false → field_of text ≡ field (trimmed (before_colon text)) (trimmed rest)
some_label text rest h k = rw h (shown_label (before_colon text) rest k)
