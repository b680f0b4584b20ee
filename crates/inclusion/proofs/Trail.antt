-- The word of a trail, from its last letter back.
use Rattle.std.proofs.Common.{◌≡◌, ℕ, ◌-◌, ◌<◌, List, [], ◌∷◌, ◌++◌, length, inl, inr, Option, Some, slice_get, slice_index, sym, ◌∙◌, ap, subst, arith, reverse}
use Rattle.std.proofs.lemmas.List.{reverse-append}
use Rattle.std.proofs.lemmas.Option.{slice_get_within}
use Rattle.rpe.specs.Regex.{Label, Word}
use Rattle.automaton.specs.Table.{Table, HasWord}
use Rattle.inclusion.specs.declared.search.Pair.{Pair}
use Rattle.inclusion.specs.Spelled.{IsUnnamed, filled, IsTrail}
use Rattle.inclusion.proofs.Bits.{have_none}
use Rattle.inclusion.proofs.Inclusion.{Refuses, refuses_before, refuses_whole}

-- the label of what stands at the position
abbrev pub IsLabelAt : Table → Label → ℕ → Label → Type 0
IsLabelAt a other p label = (k : Option Label) × (slice_get a.letters p ≡ Some k) × (label ≡ filled k other)

reverse_pushed : (word : Word) (label : Label) → reverse (word ++ label ∷ []) ≡ label ∷ reverse word
reverse_pushed word label = reverse-append word (label ∷ [])

module _ (a b : Table) (order : List Pair) (from : List ℕ) (end : ℕ) (t : IsTrail a b order from end) where
  pub trail_end : (x : Pair) → slice_get order end ≡ Some x → Refuses a b x []
  trail_end x e = let h = t.ends x e in (h.0, λ (r, small, bit, has). have_none x.set t.masks.last r h.1 bit ((t.are.last r).1 (small, has)))

  pub trail_place : (k : ℕ) (x : Pair) → slice_get order k ≡ Some x → x.position < length a.letters
  trail_place k x e = elim (t.came k x e) [
    | inl (z, (p, small, has, same)) ↦ subst (λ (y : Pair). y.position < length a.letters) (sym same) small
    | inr (j, y, n, less, f, step) ↦ step.place
  ]

  module _ (other : Label) (free : IsUnnamed b.letters other) where
    pub trail_back : (k : ℕ) (word : Word) (label : Label) (x : Pair) → 0 < slice_index from k → slice_get order k ≡ Some x
        → Refuses a b x (reverse word) → IsLabelAt a other x.position label
        → (slice_index from k - 1 < length order) × (slice_index from k - 1 < k)
        × ((y : Pair) → slice_get order (slice_index from k - 1) ≡ Some y → Refuses a b y (reverse (word ++ label ∷ [])))
    trail_back k word label x more e refuses (m, f, g) = elim (t.came k x e) [
      | inl h ↦ absurd (omega (arith, h.0))
      | inr (j, y, n, less, h, step) ↦
          let place : slice_index from k - 1 ≡ j = omega (arith, n) in
          let within = slice_get_within order j y h in (
            omega (arith, place),
            omega (arith, place),
            λ z i.
                let same : z ≡ y = same_some (sym i ∙ ap (slice_get order) place ∙ h) in
                let back = refuses_before a b t.masks t.are other free y x m (reverse word) step f refuses in
                subst (λ (v : Pair). Refuses a b v (reverse (word ++ label ∷ []))) (sym same)
                (subst (λ w. Refuses a b y w) (sym (reverse_pushed word label ∙ ap (λ l. l ∷ reverse word) g)) back),
          )
    ]
      where
        same_some : {x y : Pair} → Some x ≡ Some y → x ≡ y
        same_some e = cc

    pub trail_first : (k : ℕ) (word : Word) (label : Label) (x : Pair) → slice_index from k ≡ 0 → slice_get order k ≡ Some x
        → Refuses a b x (reverse word) → IsLabelAt a other x.position label
        → HasWord a (reverse (word ++ label ∷ [])) × (HasWord b (reverse (word ++ label ∷ [])) → ⊥)
    trail_first k word label x none e refuses (m, f, g) = elim (t.came k x e) [
      | inl h ↦
          subst (λ w. HasWord a w × (HasWord b w → ⊥)) (sym (reverse_pushed word label ∙ ap (λ l. l ∷ reverse word) g))
          (refuses_whole a b t.masks t.are other free x m (reverse word) h.1 f refuses)
      | inr h ↦ absurd (omega (arith, h.2))
    ]
