-- The tables of an expression from those of its parts.
use Rattle.std.proofs.Common.{◌≡◌, ℕ, ◌+◌, ◌<◌, ◌≤◌, true, List, ◌++◌, ◌⊎◌, ◌↔◌, inl, inr, length, Option, refl, sym, ◌∙◌, ap, arith, append_assoc, length-append}
use Rattle.automaton.specs.declared.build.Ends.{Ends}
use Rattle.rpe.specs.Language.{positions}
use Rattle.rpe.specs.Regex.{Label, Regex, seq, alt, star}
use Rattle.automaton.specs.PositionSet.{Has}
use Rattle.automaton.specs.Positions.{letters_of, Above, BothAbove, IsFirst, IsLast, Follows}
use Rattle.automaton.specs.Table.{row}
use Rattle.automaton.specs.Building.{IsAdded, Links, IsSequence, IsChoice}
use Rattle.automaton.proofs.Sets.{same_or_not}
use Rattle.automaton.proofs.Spelling.{length-letters_of, follows_below}

below_or_not : (a b : ℕ) → (a < b) ⊎ (b ≤ a)
below_or_not a b = grind arith

-- one row more is linked
module _ (old now new : List (List ℕ)) (p : ℕ) (ones others : List ℕ) where
  pub links_turn :
      ((r q : ℕ) → r < p → Has (row now r) q ↔ (Has (row old r) q ⊎ (Has ones r × Has others q)))
      → ((r : ℕ) → p ≤ r → row now r ≡ row old r)
      → ((r : ℕ) → (r ≡ p → ⊥) → row new r ≡ row now r)
      → ((q : ℕ) → Has (row new p) q ↔ (Has (row now p) q ⊎ (Has ones p × Has others q)))
      → (r q : ℕ) → r < p + 1 → Has (row new r) q ↔ (Has (row old r) q ⊎ (Has ones r × Has others q))
  links_turn done rest apart here r q small =
      elim (same_or_not r p) [
        | inl e ↦
            let k = here q in
            rw (e, ← rest p (omega arith)) k
        | inr n ↦ rw (apart r n) (done r q (omega arith))
      ]

-- a sequence
module _ (a b : Regex) (letters letters1 letters2 : List (Option Label)) (next next1 next2 next3 : List (List ℕ)) (one other both : Ends)
    (one_added : IsAdded a letters letters1 next next1 one) (other_added : IsAdded b letters1 letters2 next1 next2 other) where
  len1 : length letters1 ≡ length letters + positions a
  len1 = ap length one_added.letters ∙ (length-append letters (letters_of a) ∙ ap (λ n. length letters + n) (length-letters_of a))

  letters_both : letters2 ≡ letters ++ (letters_of a ++ letters_of b)
  letters_both = other_added.letters ∙ (ap (λ l. l ++ letters_of b) one_added.letters ∙ append_assoc letters (letters_of a) (letters_of b))

  -- numbers above the first part's are numbers of the second part
  shift : (P : ℕ → Type 0) (p : ℕ) → Above (length letters1) P p ↔ Above (length letters) (Above (positions a) P) p
  shift P p = (
    λ h. (positions a + h.0, omega (arith, len1, h.1), (h.0, refl, h.2)),
    λ h. (h.2.0, omega (arith, len1, h.1, h.2.1), h.2.2),
  )

  -- rows of the parts, in the numbers of the whole
  part_rows : Regex → ℕ → ℕ → Type 0
  part_rows e p q = BothAbove (length letters) (Follows e) p q

  left_rows : (p q : ℕ) → length letters ≤ p → p < length letters1 → Has (row next2 p) q ↔ BothAbove (length letters) (Follows a) p q
  left_rows p q large small =
      let k = other_added.old_rows p q small in
      let m = one_added.new_rows p q large in
      (λ h. m.0 (k.0 h), λ h. k.1 (m.1 h))

  right_rows : (p q : ℕ) → length letters1 ≤ p
      → Has (row next2 p) q ↔ BothAbove (length letters) (BothAbove (positions a) (Follows b)) p q
  right_rows p q large =
      let m = other_added.new_rows p q large in (
        λ h. let (r, e, (s, f, g)) = m.0 h in
            (positions a + r, omega (arith, len1, e), (positions a + s, omega (arith, len1, f), (r, refl, (s, refl, g)))),
        λ (r, e, (s, f, (x, d, (y, g, h)))). m.1 (x, omega (arith, len1, e, d), (y, omega (arith, len1, f, g), h)),
      )

  rows_below : (p q : ℕ) → p < length letters → Has (row next2 p) q ↔ Has (row next p) q
  rows_below p q small =
      let k = other_added.old_rows p q (omega (arith, len1)) in
      let m = one_added.old_rows p q small in
      (λ h. m.0 (k.0 h), λ h. k.1 (m.1 h))

  pub seq_added : Links next2 next3 one.last other.first → length next3 ≡ length next2 → IsSequence one other both
      → IsAdded (seq a b) letters letters2 next next3 both
  seq_added links len ends = record {
    letters = letters_both;
    paired = len ∙ other_added.paired;
    has_empty = ends.has_empty ∙ rw (one_added.has_empty, other_added.has_empty);
    first = λ p. (
      λ h. elim ((ends.first p).0 h) [
        | inl k ↦ let m = (one_added.first p).0 k in (m.0, m.1, inl m.2)
        | inr k ↦ let m = (shift (IsFirst b) p).0 ((other_added.first p).0 k.1) in (m.0, m.1, inr (sym one_added.has_empty ∙ k.0, m.2))
      ],
      λ h. (ends.first p).1 (elim h.2 [
        | inl k ↦ inl ((one_added.first p).1 (h.0, h.1, k))
        | inr k ↦ inr (one_added.has_empty ∙ k.0, (other_added.first p).1 ((shift (IsFirst b) p).1 (h.0, h.1, k.1)))
      ]),
    );
    last = λ p. (
      λ h. elim ((ends.last p).0 h) [
        | inl k ↦ let m = (shift (IsLast b) p).0 ((other_added.last p).0 k) in (m.0, m.1, inl m.2)
        | inr k ↦ let m = (one_added.last p).0 k.1 in (m.0, m.1, inr (sym other_added.has_empty ∙ k.0, m.2))
      ],
      λ h. (ends.last p).1 (elim h.2 [
        | inl k ↦ inl ((other_added.last p).1 ((shift (IsLast b) p).1 (h.0, h.1, k)))
        | inr k ↦ inr (other_added.has_empty ∙ k.0, (one_added.last p).1 (h.0, h.1, k.1))
      ]),
    );
    old_rows = λ p q small. (
      λ h. elim ((links p q).0 h) [
        | inl k ↦ (rows_below p q small).0 k
        | inr k ↦ absurd (let m = (one_added.last p).0 k.0 in omega (arith, m.1))
      ],
      λ h. (links p q).1 (inl ((rows_below p q small).1 h)),
    );
    new_rows = λ p q large. (seq_rows_to links p q large, seq_rows_from links p q large);
  }
    where
      joint : (p q : ℕ) → Has one.last p → Has other.first q → BothAbove (length letters) (Follows (seq a b)) p q
      joint p q g h =
          let m = (one_added.last p).0 g in
          let k = (shift (IsFirst b) q).0 ((other_added.first q).0 h) in
          (m.0, m.1, (k.0, k.1, inr (inr (m.2, k.2))))

      seq_rows_to : Links next2 next3 one.last other.first → (p q : ℕ) → length letters ≤ p → Has (row next3 p) q → BothAbove (length letters) (Follows (seq a b)) p q
      seq_rows_to links p q large h =
          elim ((links p q).0 h) [
            | inl k ↦ elim (below_or_not p (length letters1)) [
              | inl small ↦ let m = (left_rows p q large small).0 k in (m.0, m.1, (m.2.0, m.2.1, inl m.2.2))
              | inr big ↦ let m = (right_rows p q big).0 k in (m.0, m.1, (m.2.0, m.2.1, inr (inl m.2.2)))
            ]
            | inr k ↦ joint p q k.0 k.1
          ]

      seq_rows_from : Links next2 next3 one.last other.first → (p q : ℕ) → length letters ≤ p → BothAbove (length letters) (Follows (seq a b)) p q → Has (row next3 p) q
      seq_rows_from links p q large (r, e, (s, f, inl h)) =
          (links p q).1 (inl ((left_rows p q large (omega (arith, len1, e, (follows_below a r s h).0))).1 (r, e, (s, f, h))))
      seq_rows_from links p q large (r, e, (s, f, inr (inl (x, d, h)))) =
          (links p q).1 (inl ((right_rows p q (omega (arith, len1, e, d))).1 (r, e, (s, f, (x, d, h)))))
      seq_rows_from links p q large (r, e, (s, f, inr (inr h))) =
          (links p q).1 (inr ((one_added.last p).1 (r, e, h.0), (other_added.first q).1 ((shift (IsFirst b) q).1 (s, f, h.1))))

  pub alt_added : IsChoice one other both → IsAdded (alt a b) letters letters2 next next2 both
  alt_added ends = record {
    letters = letters_both;
    paired = other_added.paired;
    has_empty = ends.has_empty ∙ rw (one_added.has_empty, other_added.has_empty);
    first = λ p. (
      λ h. elim ((ends.first p).0 h) [
        | inl k ↦ let m = (one_added.first p).0 k in (m.0, m.1, inl m.2)
        | inr k ↦ let m = (shift (IsFirst b) p).0 ((other_added.first p).0 k) in (m.0, m.1, inr m.2)
      ],
      λ h. (ends.first p).1 (elim h.2 [
        | inl k ↦ inl ((one_added.first p).1 (h.0, h.1, k))
        | inr k ↦ inr ((other_added.first p).1 ((shift (IsFirst b) p).1 (h.0, h.1, k)))
      ]),
    );
    last = λ p. (
      λ h. elim ((ends.last p).0 h) [
        | inl k ↦ let m = (one_added.last p).0 k in (m.0, m.1, inl m.2)
        | inr k ↦ let m = (shift (IsLast b) p).0 ((other_added.last p).0 k) in (m.0, m.1, inr m.2)
      ],
      λ h. (ends.last p).1 (elim h.2 [
        | inl k ↦ inl ((one_added.last p).1 (h.0, h.1, k))
        | inr k ↦ inr ((other_added.last p).1 ((shift (IsLast b) p).1 (h.0, h.1, k)))
      ]),
    );
    old_rows = rows_below;
    new_rows = λ p q large. (alt_rows_to p q large, alt_rows_from p q large);
  }
    where
      alt_rows_to : (p q : ℕ) → length letters ≤ p → Has (row next2 p) q → BothAbove (length letters) (Follows (alt a b)) p q
      alt_rows_to p q large k =
          elim (below_or_not p (length letters1)) [
            | inl small ↦ let m = (left_rows p q large small).0 k in (m.0, m.1, (m.2.0, m.2.1, inl m.2.2))
            | inr big ↦ let m = (right_rows p q big).0 k in (m.0, m.1, (m.2.0, m.2.1, inr m.2.2))
          ]

      alt_rows_from : (p q : ℕ) → length letters ≤ p → BothAbove (length letters) (Follows (alt a b)) p q → Has (row next2 p) q
      alt_rows_from p q large (r, e, (s, f, inl h)) =
          (left_rows p q large (omega (arith, len1, e, (follows_below a r s h).0))).1 (r, e, (s, f, h))
      alt_rows_from p q large (r, e, (s, f, inr (x, d, h))) =
          (right_rows p q (omega (arith, len1, e, d))).1 (r, e, (s, f, (x, d, h)))

-- a repetition
module _ (a : Regex) (letters letters1 : List (Option Label)) (next next1 next2 : List (List ℕ)) (body whole : Ends)
    (added : IsAdded a letters letters1 next next1 body) where
  pub star_added : Links next1 next2 body.last body.first → length next2 ≡ length next1
      → whole.has_empty ≡ true → whole.first ≡ body.first → whole.last ≡ body.last → IsAdded (star a) letters letters1 next next2 whole
  star_added links len e f g = record {
    letters = added.letters;
    paired = len ∙ added.paired;
    has_empty = e;
    first = λ p. rw f (added.first p);
    last = λ p. rw g (added.last p);
    old_rows = λ p q small. (
      λ h. elim ((links p q).0 h) [
        | inl k ↦ (added.old_rows p q small).0 k
        | inr k ↦ absurd (let m = (added.last p).0 k.0 in omega (arith, m.1))
      ],
      λ h. (links p q).1 (inl ((added.old_rows p q small).1 h)),
    );
    new_rows = λ p q large. (
      λ h. elim ((links p q).0 h) [
        | inl k ↦ let m = (added.new_rows p q large).0 k in (m.0, m.1, (m.2.0, m.2.1, inl m.2.2))
        | inr k ↦
            let m = (added.last p).0 k.0 in
            let n = (added.first q).0 k.1 in
            (m.0, m.1, (n.0, n.1, inr (m.2, n.2)))
      ],
      λ h. (links p q).1 (elim h.2.2 [
        | inl k ↦ inl ((added.new_rows p q large).1 (h.0, h.1, (h.2.0, h.2.1, k)))
        | inr k ↦ inr ((added.last p).1 (h.0, h.1, k.0), (added.first q).1 (h.2.0, h.2.1, k.1))
      ]),
    );
  }
