-- Marks of pairs, and lists that grow by a pair.
use Rattle.std.proofs.Common.{◌≡◌, ℕ, ◌+◌, ◌*◌, ◌<◌, ◌≤◌, Bool, true, false, List, [], ◌∷◌, ◌++◌, length, ◌⊎◌, inl, inr, refl, sym, ◌∙◌, ap, subst, arith, get_or, set, get_or-set_other, append_assoc}
use Rattle.std.specs.Prelude.{Contains, slice_index, bit_and}
use Rattle.std.proofs.Math.Nat.{mul-le-mul_right}
use Rattle.std.proofs.lemmas.List.{append-nil}
use Rattle.std.proofs.lemmas.List.Elements.{Contains-append_left, Contains-append_cases, Contains-push}
use Rattle.automaton.proofs.Sets.{same_or_not}
use Rattle.inclusion.specs.declared.search.Pair.{Pair}
use Rattle.automaton.specs.PositionSet.{Has}
use Rattle.inclusion.specs.Search.{AreListed, IsPairOf, Grows, HasEach}

-- ---- one place for each pair

place_past : (p q s t w : ℕ) → t < w → q < p → q * w + t < p * w + s
place_past p q s t w small less =
    let next : q + 1 ≤ p = omega arith in
    let rows : (q + 1) * w ≤ p * w = mul-le-mul_right w next in
    omega arith

pub one_place : (p q s t w : ℕ) → s < w → t < w → p * w + s ≡ q * w + t → (p ≡ q) × (s ≡ t)
one_place p q s t w f g e = elim (same_or_not p q) [
  | inl h ↦ (h, let same : p * w ≡ q * w = ap (λ x. x * w) h in omega arith)
  | inr n ↦ absurd (apart (less_or_more n))
]
  where
    less_or_more : (p ≡ q → ⊥) → (p < q) ⊎ (q < p)
    less_or_more n = grind arith

    apart : (p < q) ⊎ (q < p) → ⊥
    apart (inl h) = let k = place_past q p t s w f h in omega arith
    apart (inr h) = let k = place_past p q s t w g h in omega arith

-- ---- lists that grow

pub grows_none : (P : Pair → Type 0) (marks : List Bool) (order : List Pair) → Grows P marks marks order order
grows_none P marks order = record {
  more = ([], sym (append-nil order), λ x h. absurd (omega (arith, h.1)));
  size = refl;
  left = refl;
}

pub grows_more : (P : Pair → Type 0) (marks marks2 marks3 : List Bool) (order order2 order3 : List Pair)
    → Grows P marks marks2 order order2 → Grows P marks2 marks3 order2 order3 → Grows P marks marks3 order order3
grows_more P marks marks2 marks3 order order2 order3 g h = record {
  more = (
    g.more.0 ++ h.more.0,
    h.more.1 ∙ ap (λ xs. xs ++ h.more.0) g.more.1 ∙ append_assoc order g.more.0 h.more.0,
    λ x k. elim (Contains-append_cases g.more.0 h.more.0 x k) [ inl a ↦ g.more.2 x a | inr b ↦ h.more.2 x b ],
  );
  size = h.size ∙ g.size;
  left = h.left ∙ g.left;
}

pub grows_weaker : (P Q : Pair → Type 0) (marks marks2 : List Bool) (order order2 : List Pair) → ((x : Pair) → P x → Q x)
    → Grows P marks marks2 order order2 → Grows Q marks marks2 order order2
grows_weaker P Q marks marks2 order order2 f g = record {
  more = (g.more.0, g.more.1, λ x k. f x (g.more.2 x k));
  size = g.size;
  left = g.left;
}

pub still_has : (P : Pair → Type 0) (marks marks2 : List Bool) (order order2 : List Pair) → Grows P marks marks2 order order2
    → (x : Pair) → Contains order x → Contains order2 x
still_has P marks marks2 order order2 g x h =
    subst (λ xs. Contains xs x) (sym g.more.1) (Contains-append_left order g.more.0 x h)

pub either : (P : Pair → Type 0) (marks marks2 : List Bool) (order order2 : List Pair) → Grows P marks marks2 order order2
    → (x : Pair) → Contains order2 x → Contains order x ⊎ P x
either P marks marks2 order order2 g x h =
    elim (Contains-append_cases order g.more.0 x (subst (λ xs. Contains xs x) g.more.1 h)) [ inl a ↦ inl a | inr b ↦ inr (g.more.2 x b) ]

-- ---- one pair more

abbrev pub made : ℕ → ℕ → Pair
made p s = record { position = p; set = s }

same_pair : (x y : Pair) → x.position ≡ y.position → x.set ≡ y.set → x ≡ y
same_pair x y e f = ap (λ n. made n x.set) e ∙ ap (λ n. made y.position n) f

module _ (width : ℕ) (marks : List Bool) (order : List Pair) (pair : Pair) where
  abbrev place : ℕ
  place = pair.position * width + pair.set

  pub told_push : pair.set < width → place < length marks → AreListed width marks order → AreListed width (set marks place true) (order ++ pair ∷ [])
  told_push small within listed p s f e = elim (same_or_not (p * width + s) place) [
    | inl h ↦
        let k = one_place p pair.position s pair.set width f small h in
        let same = same_pair pair (made p s) (sym k.0) (sym k.1) in
        subst (λ x. Contains (order ++ pair ∷ []) x) same (Contains-push order pair)
    | inr n ↦
        let other : get_or (set marks place true) (p * width + s) false ≡ get_or marks (p * width + s) false = get_or-set_other marks place (p * width + s) true false n in
        Contains-append_left order (pair ∷ []) (made p s) (listed p s f (sym other ∙ e))
  ]

  pub has_pushed : HasEach (λ x. x ≡ pair) (order ++ pair ∷ [])
  has_pushed x e = subst (λ y. Contains (order ++ pair ∷ []) y) (sym e) (Contains-push order pair)

-- ---- the pairs of a set of positions

module _ (positions : List ℕ) (reach : ℕ) (covers : List ℕ) where
  pub widen : (p n : ℕ) → p ≤ n → (x : Pair) → IsPairOf p positions reach covers x → IsPairOf n positions reach covers x
  widen p n le x (q, small, has, e) = (q, omega arith, has, e)

  pub grows_turn : (p here : ℕ) (marks marks2 marks3 : List Bool) (order order2 order3 : List Pair)
      → Grows (IsPairOf p positions reach covers) marks marks2 order order2 → Has positions p → here ≡ slice_index covers p
      → Grows (λ x. x ≡ made p (bit_and reach here)) marks2 marks3 order2 order3
      → Grows (IsPairOf (p + 1) positions reach covers) marks marks3 order order3
  grows_turn p here marks marks2 marks3 order order2 order3 g has e h =
      grows_more (IsPairOf (p + 1) positions reach covers) marks marks2 marks3 order order2 order3
      (grows_weaker (IsPairOf p positions reach covers) (IsPairOf (p + 1) positions reach covers) marks marks2 order order2 (widen p (p + 1) (omega arith)) g)
      (grows_weaker (λ x. x ≡ made p (bit_and reach here)) (IsPairOf (p + 1) positions reach covers) marks2 marks3 order2 order3
      (λ x k. (p, omega arith, has, k ∙ ap (λ n. made p (bit_and reach n)) e)) h)

  pub each_turn : (p here : ℕ) (marks marks2 : List Bool) (order order2 : List Pair) → HasEach (IsPairOf p positions reach covers) order
      → here ≡ slice_index covers p → Grows (λ x. x ≡ made p (bit_and reach here)) marks marks2 order order2
      → HasEach (λ x. x ≡ made p (bit_and reach here)) order2 → HasEach (IsPairOf (p + 1) positions reach covers) order2
  each_turn p here marks marks2 order order2 each e g new x (q, small, has, f) = elim (same_or_not q p) [
    | inl same ↦ new x (f ∙ ap (λ n. made n (bit_and reach (slice_index covers n))) same ∙ ap (λ n. made p (bit_and reach n)) (sym e))
    | inr n ↦ still_has (λ y. y ≡ made p (bit_and reach here)) marks marks2 order order2 g x (each x (q, omega arith, has, f))
  ]

  pub each_skip : (p : ℕ) (order : List Pair) → HasEach (IsPairOf p positions reach covers) order → (Has positions p → ⊥)
      → HasEach (IsPairOf (p + 1) positions reach covers) order
  each_skip p order each off x (q, small, has, f) = elim (same_or_not q p) [
    | inl same ↦ absurd (off (subst (Has positions) same has))
    | inr n ↦ each x (q, omega arith, has, f)
  ]
