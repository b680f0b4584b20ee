-- Sets of positions after an operation on their words.
use Rattle.std.proofs.Common.{◌≡◌, ℕ, ◌+◌, ◌-◌, ◌*◌, ◌/◌, ◌%◌, ◌^◌, ◌<◌, max, List, length, ◌⊎◌, ◌↔◌, inl, inr, sym, ◌∙◌, ap, subst, arith, slice_index, w64, get_or-set_other, get_or-set_same}
use Rattle.std.specs.Int.{bit_at, bit_not, trailing_zeros}
use Rattle.std.specs.Prelude.{bit_and, bit_or, slice_set}
use Rattle.std.proofs.lemmas.Nat.Bits.{bit_at_or, bit_at_and, bit_at-lt, bit_at_not, bit_at_set_same, bit_at_set_other, bit_at-trailing_zeros, bit_at-zero}
use Rattle.std.proofs.lemmas.Bool.Decides.{eqb_tells}
use Rattle.std.proofs.lemmas.Nat.{and_le_l}
use Rattle.automaton.specs.PositionSet.{Has}

pub same_or_not : (a b : ℕ) → (a ≡ b) ⊎ (a ≡ b → ⊥)
same_or_not a b = elim (eqb_tells a b) [ inl h ↦ inl h.1 | inr h ↦ inr h.1 ]

or_bits : (a b i : ℕ) → (bit_at (bit_or a b) i ≡ 1) ↔ ((bit_at a i ≡ 1) ⊎ (bit_at b i ≡ 1))
or_bits a b i =
    let e = bit_at_or a b i in
    let f = bit_at-lt a i in
    let g = bit_at-lt b i in
    (λ h. bit_cases (bit_at a i) (bit_at b i) f g (omega arith), λ k. elim k [ inl h ↦ omega arith | inr h ↦ omega arith ])
  where
    bit_cases : (x y : ℕ) → x < 2 → y < 2 → max x y ≡ 1 → (x ≡ 1) ⊎ (y ≡ 1)
    bit_cases x y f g h = grind arith

and_bits : (a b i : ℕ) → (bit_at (bit_and a b) i ≡ 1) ↔ ((bit_at a i ≡ 1) × (bit_at b i ≡ 1))
and_bits a b i =
    let e = bit_at_and a b i in
    let f = bit_at-lt a i in
    let g = bit_at-lt b i in
    (λ h. (omega arith, omega arith), λ k. omega arith)

-- a set whose words are concat from those of two others
pub has_or : (w a b : List ℕ) → ((k : ℕ) → k < 4 → slice_index w k ≡ bit_or (slice_index a k) (slice_index b k))
    → (q : ℕ) → Has w q ↔ (Has a q ⊎ Has b q)
has_or w a b e q = (
  λ h. elim ((or_bits _ _ _).0 (subst (λ x. bit_at x (q % 64) ≡ 1) (e (q / 64) (let s = h.small in omega arith)) h.bit))
      [ inl k ↦ inl (record { small = h.small; bit = k }) | inr k ↦ inr (record { small = h.small; bit = k }) ],
  λ k. elim k [ inl h ↦ back h.small (inl h.bit) | inr h ↦ back h.small (inr h.bit) ],
)
  where
    back : q < 256 → ((bit_at (slice_index a (q / 64)) (q % 64) ≡ 1) ⊎ (bit_at (slice_index b (q / 64)) (q % 64) ≡ 1)) → Has w q
    back s k = record { small = s; bit = subst (λ x. bit_at x (q % 64) ≡ 1) (sym (e (q / 64) (omega arith))) ((or_bits _ _ _).1 k) }

not_bits : (b i : ℕ) → b < 2 ^ 64 → i < 64 → (bit_at (bit_not w64 b) i ≡ 1) ↔ (bit_at b i ≡ 1 → ⊥)
not_bits b i fits small =
    let e = bit_at_not w64 b i fits small in
    let f = bit_at-lt b i in
    (λ h k. omega arith, λ h. other (bit_at b i) f h (bit_at (bit_not w64 b) i) e)
  where
    other : (x : ℕ) → x < 2 → (x ≡ 1 → ⊥) → (y : ℕ) → y ≡ 1 - x → y ≡ 1
    other x f h y e = grind arith

-- a set from whose words those of another are taken
pub has_and_not : (w a b : List ℕ) → ((k : ℕ) → k < 4 → slice_index b k < 2 ^ 64)
    → ((k : ℕ) → k < 4 → slice_index w k ≡ bit_and (slice_index a k) (bit_not w64 (slice_index b k)))
    → (q : ℕ) → Has w q ↔ (Has a q × (Has b q → ⊥))
has_and_not w a b fits e q = (
  λ h.
      let s = h.small in
      let k = (and_bits _ _ _).0 (subst (λ x. bit_at x (q % 64) ≡ 1) (e (q / 64) (omega arith)) h.bit) in
      (record { small = h.small; bit = k.0 }, λ g. (not_bits _ _ (fits (q / 64) (omega arith)) (omega arith)).0 k.1 g.bit),
  λ k.
      let s = k.0.small in
      record {
        small = s;
        bit = subst (λ x. bit_at x (q % 64) ≡ 1) (sym (e (q / 64) (omega arith)))
            ((and_bits _ _ _).1 (k.0.bit, (not_bits _ _ (fits (q / 64) (omega arith)) (omega arith)).1 (λ g. k.1 (record { small = s; bit = g }))));
      },
)

has_set_by : (a w : List ℕ) (p q : ℕ) → (q ≡ p → ⊥) → bit_at (slice_index w (q / 64)) (q % 64) ≡ bit_at (slice_index a (q / 64)) (q % 64)
    → Has w q ↔ ((q ≡ p) ⊎ Has a q)
has_set_by a w p q n f = (
  λ h. inr (record { small = h.small; bit = sym f ∙ h.bit }),
  λ k. elim k [ inl e ↦ absurd (n e) | inr h ↦ record { small = h.small; bit = f ∙ h.bit } ],
)

-- a set after one bit is set
pub has_set : (a : List ℕ) (p : ℕ) → length a ≡ 4 → p < 256
    → (q : ℕ) → Has (slice_set a (p / 64) (bit_or (slice_index a (p / 64)) (1 * 2 ^ (p % 64) % 2 ^ 64))) q ↔ ((q ≡ p) ⊎ Has a q)
has_set a p len small q =
    let word = bit_or (slice_index a (p / 64)) (1 * 2 ^ (p % 64) % 2 ^ 64) in
    let k : p / 64 < length a = omega arith in
    elim (same_or_not q p) [
      | inl e ↦ (λ h. inl e, λ h. rw e (record { small = small; bit = rw (get_or-set_same a (p / 64) word 0 k) (bit_at_set_same w64 _ (p % 64) (omega arith)) }))
      | inr n ↦ elim (same_or_not (q / 64) (p / 64)) [
        | inl e ↦
            let d : q % 64 ≡ p % 64 → ⊥ = λ f. n (omega arith) in
            has_set_by a (slice_set a (p / 64) word) p q n
            (rw (e, get_or-set_same a (p / 64) word 0 k) (bit_at_set_other w64 _ (p % 64) (omega arith) (q % 64) d))
        | inr d ↦ has_set_by a (slice_set a (p / 64) word) p q n (ap (λ x. bit_at x (q % 64)) (get_or-set_other a (p / 64) (q / 64) word 0 d))
      ]
    ]

-- two words with a bit in common
pub common_bit : (x y : ℕ) → x < 2 ^ 64 → y < 2 ^ 64 → (bit_and x y ≡ 0 → ⊥) → (i : ℕ) × (i < 64) × (bit_at x i ≡ 1) × (bit_at y i ≡ 1)
common_bit x y f g h =
    let n = bit_and x y in
    let b = bit_at-trailing_zeros w64 n (omega arith) (omega (arith, and_le_l x y)) in
    let k = (and_bits x y (trailing_zeros w64 n)).0 b.1 in
    (trailing_zeros w64 n, b.0, k.0, k.1)

-- two sets with words in common have a position in common
pub meet_at : (a b : List ℕ) (k : ℕ) → k < 4 → slice_index a k < 2 ^ 64 → slice_index b k < 2 ^ 64
    → (bit_and (slice_index a k) (slice_index b k) ≡ 0 → ⊥) → (q : ℕ) × Has a q × Has b q
meet_at a b k small f g h =
    let c = common_bit _ _ f g h in
    let q = k * 64 + c.0 in
    let d : q / 64 ≡ k = omega (arith, c.1) in
    let m : q % 64 ≡ c.0 = omega (arith, c.1) in
    (q, record { small = omega (arith, c.1); bit = rw (d, m) c.2 }, record { small = omega (arith, c.1); bit = rw (d, m) c.3 })

-- no position is in both where no words have a bit in common
pub apart_all : (a b : List ℕ) → ((k : ℕ) → k < 4 → bit_and (slice_index a k) (slice_index b k) ≡ 0) → (q : ℕ) → Has a q → Has b q → ⊥
apart_all a b e q g h =
    let s = g.small in
    let k = (and_bits (slice_index a (q / 64)) (slice_index b (q / 64)) (q % 64)).1 (g.bit, h.bit) in
    let z = subst (λ x. bit_at x (q % 64) ≡ 1) (e (q / 64) (omega arith)) k in
    omega (arith, z, bit_at-zero (q % 64))
