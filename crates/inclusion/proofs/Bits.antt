-- Masks after a step of a loop that makes one.
use Rattle.std.proofs.Common.{◌≡◌, ℕ, ◌+◌, ◌*◌, ◌/◌, ◌%◌, ◌^◌, ◌<◌, max, List, [], ◌∷◌, ◌++◌, length, ◌⊎◌, ◌↔◌, inl, inr, refl, sym, ◌∙◌, subst, arith, slice_index, w32}
use Rattle.std.specs.Int.{bit_at, trailing_zeros}
use Rattle.std.specs.Prelude.{bit_and, bit_or}
use Rattle.std.proofs.Math.Pow.{pow-lt}
use Rattle.std.proofs.lemmas.Nat.{or_lt, one_shl, and_le_l}
use Rattle.std.proofs.lemmas.List.{get_or_push, get_or_append_left}
use Rattle.std.proofs.lemmas.Nat.Bits.{shr_and_one, bit_at_or, bit_at_and, bit_at-lt, bit_at_set_same, bit_at_set_other, bit_at-trailing_zeros, bit_at-zero}
use Rattle.automaton.specs.PositionSet.{Has}
use Rattle.automaton.specs.Table.{row}
use Rattle.automaton.proofs.Sets.{same_or_not}
use Rattle.inclusion.specs.Masks.{Bit}

pub or_bits : (a b i : ℕ) → Bit (bit_or a b) i ↔ (Bit a i ⊎ Bit b i)
or_bits a b i =
    let e = bit_at_or a b i in
    let f = bit_at-lt a i in
    let g = bit_at-lt b i in
    (λ h. bit_cases (bit_at a i) (bit_at b i) f g (omega arith), λ k. elim k [ inl h ↦ omega arith | inr h ↦ omega arith ])
  where
    bit_cases : (x y : ℕ) → x < 2 → y < 2 → max x y ≡ 1 → (x ≡ 1) ⊎ (y ≡ 1)
    bit_cases x y f g h = grind arith

pub and_bits : (a b i : ℕ) → Bit (bit_and a b) i ↔ (Bit a i × Bit b i)
and_bits a b i =
    let e = bit_at_and a b i in
    let f = bit_at-lt a i in
    let g = bit_at-lt b i in
    (λ h. (omega arith, omega arith), λ k. omega arith)

pub none_in_zero : (i : ℕ) → Bit 0 i → ⊥
none_in_zero i h = omega (arith, bit_at-zero i)

-- ---- one bit more

abbrev one_at : ℕ → ℕ
one_at p = 1 * 2 ^ p % 2 ^ 32

pub with_bit_lt : (mask p : ℕ) → p < 32 → mask < 2 ^ p → bit_or mask (1 * 2 ^ p % 2 ^ 32) < 2 ^ (p + 1)
with_bit_lt mask p small below =
    let next : p < p + 1 = omega arith in
    let grown = pow-lt next in
    or_lt (p + 1) mask (one_at p) (omega arith) (rw (one_shl p 32 small) grown)

pub more_lt : (mask p : ℕ) → mask < 2 ^ p → mask < 2 ^ (p + 1)
more_lt mask p below =
    let next : p < p + 1 = omega arith in
    let grown = pow-lt next in omega arith

-- the mask has the positions below the count at which the fact holds
abbrev pub HasBelow : (ℕ → Type 0) → ℕ → ℕ → Type 0
HasBelow P count mask = (i : ℕ) → Bit mask i ↔ ((i < count) × P i)

pub has_none : (P : ℕ → Type 0) → HasBelow P 0 0
has_none P i = (λ h. absurd (none_in_zero i h), λ k. absurd (omega (arith, k.0)))

pub has_turn : (P : ℕ → Type 0) (p mask : ℕ) → p < 32 → HasBelow P p mask → P p → HasBelow P (p + 1) (bit_or mask (1 * 2 ^ p % 2 ^ 32))
has_turn P p mask small below here i = elim (same_or_not i p) [
  | inl e ↦ rw e ((λ h. (omega arith, here), λ k. bit_at_set_same w32 mask p small))
  | inr n ↦
      let same : bit_at (bit_or mask (one_at p)) i ≡ bit_at mask i = bit_at_set_other w32 mask p small i n in (
        λ h. let k = (below i).0 (sym same ∙ h) in (omega (arith, k.0), k.1),
        λ k. same ∙ (below i).1 (omega (arith, k.0), k.1),
      )
]

pub has_skip : (P : ℕ → Type 0) (p mask : ℕ) → HasBelow P p mask → (P p → ⊥) → HasBelow P (p + 1) mask
has_skip P p mask below off i = (
  λ h. let k = (below i).0 h in (omega (arith, k.0), k.1),
  λ k. elim (same_or_not i p) [
    | inl e ↦ absurd (off (subst P e k.1))
    | inr n ↦ (below i).1 (omega (arith, k.0), k.1)
  ],
)

-- ---- the union of rows

abbrev pub ReachBelow : List ℕ → ℕ → ℕ → ℕ → Type 0
ReachBelow next set p reach = (i : ℕ) → Bit reach i ↔ ((r : ℕ) × (r < p) × Bit set r × Bit (slice_index next r) i)

pub reach_turn : (next : List ℕ) (set p reach here : ℕ) → ReachBelow next set p reach → here ≡ slice_index next p → Bit set p
    → ReachBelow next set (p + 1) (bit_or reach here)
reach_turn next set p reach here below e on i = (to, from)
  where
    to : Bit (bit_or reach here) i → (r : ℕ) × (r < p + 1) × Bit set r × Bit (slice_index next r) i
    to h = elim ((or_bits reach here i).0 h) [
      | inl g ↦ let m = (below i).0 g in (m.0, omega (arith, m.1), m.2, m.3)
      | inr g ↦ (p, omega arith, on, subst (λ x. Bit x i) e g)
    ]

    from : ((r : ℕ) × (r < p + 1) × Bit set r × Bit (slice_index next r) i) → Bit (bit_or reach here) i
    from (r, small, h, g) = elim (same_or_not r p) [
      | inl f ↦ (or_bits reach here i).1 (inr (subst (λ x. Bit x i) (sym e) (subst (λ x. Bit (slice_index next x) i) f g)))
      | inr n ↦ (or_bits reach here i).1 (inl ((below i).1 (r, omega arith, h, g)))
    ]

pub reach_skip : (next : List ℕ) (set p reach : ℕ) → ReachBelow next set p reach → (Bit set p → ⊥) → ReachBelow next set (p + 1) reach
reach_skip next set p reach below off i = (
  λ h. let m = (below i).0 h in (m.0, omega (arith, m.1), m.2, m.3),
  λ (r, small, h, g). elim (same_or_not r p) [
    | inl f ↦ absurd (off (subst (Bit set) f h))
    | inr n ↦ (below i).1 (r, omega arith, h, g)
  ],
)

-- ---- what two masks have in common

pub have_common : (x y : ℕ) → x < 2 ^ 32 → (bit_and x y ≡ 0 → ⊥) → (i : ℕ) × Bit x i × Bit y i
have_common x y f h =
    let n = bit_and x y in
    let b = bit_at-trailing_zeros w32 n (omega arith) (omega (arith, and_le_l x y)) in
    let k = (and_bits x y (trailing_zeros w32 n)).0 b.1 in
    (trailing_zeros w32 n, k.0, k.1)

pub have_none : (x y i : ℕ) → bit_and x y ≡ 0 → Bit x i → Bit y i → ⊥
have_none x y i e f g = none_in_zero i (subst (λ z. Bit z i) e ((and_bits x y i).1 (f, g)))

-- ---- rows of masks

pub row_pushed : (P : ℕ → ℕ → Type 0) (rows : List ℕ) (n mask : ℕ) → length rows ≡ n → ((k : ℕ) → k < n → P k (slice_index rows k)) → P n mask
    → (k : ℕ) → k < n + 1 → P k (slice_index (rows ++ mask ∷ []) k)
row_pushed P rows n mask len each here k small = elim (same_or_not k n) [
  | inl e ↦ subst (λ j. P j (slice_index (rows ++ mask ∷ []) j)) (sym e) (subst (P n) (sym (get_or_push rows mask 0 n len)) here)
  | inr m ↦
      let within : k < length rows = omega arith in
      subst (P k) (sym (get_or_append_left rows (mask ∷ []) 0 k within)) (each k (omega arith))
]

-- what may stand right after one position alone
pub after_alone : (next : List (List ℕ)) (one after : List ℕ) (r : ℕ) → ((q : ℕ) → Has one q ↔ (q ≡ r))
    → ((q : ℕ) → Has after q ↔ ((p : ℕ) × Has one p × Has (row next p) q)) → (q : ℕ) → Has after q ↔ Has (row next r) q
after_alone next one after r alone all q = (
  λ h. let k = (all q).0 h in subst (λ p. Has (row next p) q) ((alone k.0).0 k.1) k.2,
  λ h. (all q).1 (r, (alone r).1 refl, h),
)

-- the test of one bit
pub bit_tested : (mask i : ℕ) → (bit_and (mask / 2 ^ i) 1 ≡ 1) ↔ Bit mask i
bit_tested mask i = (λ h. sym (shr_and_one mask i) ∙ h, λ h. shr_and_one mask i ∙ h)
