-- The first line of a text, and what is left after it.
use Rattle.std.specs.Prelude.{◌≡◌, ◌+◌, ◌-◌, ◌<◌, ◌≤◌, ◌&&◌, ℕ, Bool, true, false, nat_eq, List, [], ◌∷◌, ◌++◌, length, take, Option, Some, None, if◌then◌else◌}
use Rattle.std.proofs.Common.{refl, sym, ◌∙◌, ap, arith, inl, inr, append_assoc, add-one}
use Rattle.std.proofs.lemmas.Bool.{cases_Bool, eqb-true}
use Rattle.text_source.specs.Lines.{Line, line, is_at_feed, begun, lines_of, joined}
use Rattle.text_source.specs.Cuts.{after_feed, before_feed, without_return, plain}

-- ---- the end of a line

-- at a line feed there is one
feed_there : (text : List ℕ) → is_at_feed text ≡ true → after_feed text ≡ None → ⊥
feed_there [] h k = cc
feed_there (b ∷ text) h k = let f = rw h at k in cc

-- and nothing before it
nothing_before : (text : List ℕ) → is_at_feed text ≡ true → before_feed text ≡ []
nothing_before [] h = refl
nothing_before (b ∷ text) h = rw h refl

return_kept : (b : ℕ) (front : List ℕ) → nat_eq b 13 ≡ false → without_return (b ∷ front) ≡ b ∷ without_return front
return_kept b [] h = rw h refl
return_kept b (c ∷ front) h = refl

return_inside : (b : ℕ) (text rest : List ℕ) → after_feed text ≡ Some rest → is_at_feed text ≡ false
    → without_return (b ∷ before_feed text) ≡ b ∷ without_return (before_feed text)
return_inside b [] rest h k = absurd cc
return_inside b (c ∷ text) rest h k = rw k refl

-- ---- the first line

pub cut_none : (size : ℕ) (text : List ℕ) → after_feed text ≡ None → lines_of size text ≡ line (size - length text) text ∷ []
cut_none size [] h = let e : size ≡ size - 0 = omega arith in ap (λ n. line n [] ∷ []) e
cut_none size (b ∷ text) h = elim (cases_Bool (nat_eq b 10)) [
  | inl feed ↦ absurd (let f = rw feed at h in cc)
  | inr other ↦
      let left : after_feed text ≡ None = rw other at h in
      elim (cases_Bool (is_at_feed text)) [
        | inl ends ↦ absurd (feed_there text ends left)
        | inr goes_on ↦ elim (cases_Bool (nat_eq b 13)) [
          | inl returns ↦ rw (other, returns, goes_on, cut_none size text left) refl
          | inr shown ↦ rw (other, shown, cut_none size text left) refl
        ]
      ]
]

pub cut_some : (size : ℕ) (text rest : List ℕ) → after_feed text ≡ Some rest
    → lines_of size text ≡ line (size - length text) (without_return (before_feed text)) ∷ lines_of size rest
cut_some size [] rest h = absurd cc
cut_some size (b ∷ text) rest h = elim (cases_Bool (nat_eq b 10)) [
  | inl feed ↦
      let f = rw feed at h in
      let e : text ≡ rest = cc in
      rw (feed, e) refl
  | inr other ↦
      let left : after_feed text ≡ Some rest = rw other at h in
      elim (cases_Bool (nat_eq b 13)) [
        | inl returns ↦ elim (cases_Bool (is_at_feed text)) [
          | inl ends ↦ rw (other, returns, ends, cut_some size text rest left, nothing_before text ends, returns) refl
          | inr goes_on ↦ rw (other, returns, goes_on, cut_some size text rest left, return_inside b text rest left goes_on) refl
        ]
        | inr shown ↦ rw (other, shown, cut_some size text rest left, return_kept b (before_feed text) shown) refl
      ]
]

-- ---- lengths

pub lengths : (text rest : List ℕ) → after_feed text ≡ Some rest → length rest + 1 + length (before_feed text) ≡ length text
lengths [] rest h = absurd cc
lengths (b ∷ text) rest h = elim (cases_Bool (nat_eq b 10)) [
  | inl feed ↦
      let f = rw feed at h in
      let e : text ≡ rest = cc in
      rw (feed, e) (omega arith)
  | inr other ↦
      let left : after_feed text ≡ Some rest = rw other at h in
      rw other (omega (arith, lengths text rest left))
]

pub front_is : (text : List ℕ) → before_feed text ≡ take (length (before_feed text)) text
front_is [] = refl
front_is (b ∷ text) = elim (cases_Bool (nat_eq b 10)) [
  | inl feed ↦ rw feed refl
  | inr other ↦ rw other (ap (λ x. b ∷ x) (front_is text))
]

-- ---- the whole text

some_line : (size : ℕ) (text : List ℕ) → (l : Line) × (lines : List Line) × (lines_of size text ≡ l ∷ lines)
some_line size [] = (line size [], [], refl)
some_line size (b ∷ text) =
    let (l, lines, e) = some_line size text in
    elim (cases_Bool (nat_eq b 10)) [
      | inl feed ↦ (line (size - length (b ∷ text)) [], lines_of size text, rw feed refl)
      | inr other ↦ elim (cases_Bool (nat_eq b 13 && is_at_feed text)) [
        | inl ends ↦ (line (size - length (b ∷ text)) ([] ++ l.text), lines, rw (other, ends, e) refl)
        | inr goes_on ↦ (line (size - length (b ∷ text)) ((b ∷ []) ++ l.text), lines, rw (other, goes_on, e) refl)
      ]
    ]

joined_begun : (at : ℕ) (front : List ℕ) (l : Line) (lines : List Line) → joined (begun at front (l ∷ lines)) ≡ front ++ joined (l ∷ lines)
joined_begun at front l [] = refl
joined_begun at front l (m ∷ lines) = append_assoc front l.text (10 ∷ joined (m ∷ lines))

pub joined_is : (size : ℕ) (text : List ℕ) → joined (lines_of size text) ≡ plain text
joined_is size [] = refl
joined_is size (b ∷ text) =
    let (l, lines, e) = some_line size text in
    let rest : joined (l ∷ lines) ≡ plain text = rw e at (joined_is size text) in
    elim (cases_Bool (nat_eq b 10)) [
      | inl feed ↦
          let is : b ≡ 10 = eqb-true b 10 feed in
          rw (is, e) (ap (λ x. 10 ∷ x) rest)
      | inr other ↦ elim (cases_Bool (nat_eq b 13 && is_at_feed text)) [
        | inl ends ↦ rw (other, ends, e, joined_begun (size - length (b ∷ text)) [] l lines) rest
        | inr goes_on ↦ rw (other, goes_on, e, joined_begun (size - length (b ∷ text)) (b ∷ []) l lines) (ap (λ x. b ∷ x) rest)
      ]
    ]
