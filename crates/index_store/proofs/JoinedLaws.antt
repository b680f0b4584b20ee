-- Ranks and places as one number.
use Rattle.std.specs.Prelude.{◌≡◌, ◌⊎◌, ◌<◌, ◌≤◌, ℕ, ◌+◌, ◌*◌, ◌%◌, ◌^◌, List, [], ◌∷◌, ◌++◌, map, length, slice_index, Contains}
use Rattle.std.specs.declared.cmp.Ordering.{Ordering}
use Rattle.std.specs.declared.cmp.Ordering.TheVariants.{Less}
use Rattle.std.specs.Ordering.{ordering_then, nat_cmp}
use Rattle.std.proofs.Common.{arith, sym, ap, ◌∙◌, subst, inl, inr}
use Rattle.std.proofs.lemmas.Bool.{cases_lt}
use Rattle.std.proofs.lemmas.Bool.Decides.{nat_tests}
use Rattle.std.proofs.lemmas.Cmp.{nat_cmp_total, tied_itself}
use Rattle.std.proofs.lemmas.List.Elements.{Contains-push_cases, Contains-push, Contains-append_left}
use Rattle.sd_value.specs.Ascending.{ListsExactly}
use Rattle.index_store.specs.Ranks.{rank_cmp, joined_at, AreJoined}
use Rattle.index_store.proofs.RankLaws.{mapped_lists}

-- the numbers of a list that goes on
pub one_joined_more : (ranks : List ℕ) (n : ℕ) (js : List ℕ) → AreJoined ranks n js → AreJoined ranks (n + 1) (js ++ joined_at ranks n ∷ [])
one_joined_more ranks n js are = record {
  sound = λ j h. elim (Contains-push_cases js (joined_at ranks n) j h) [
    | inl old ↦ let found = are.sound j old in (found.0, omega (arith, found.1), found.2)
    | inr e ↦ (n, omega arith, sym e)
  ];
  complete = λ i l. by i (last i l);
}
  where
    last : (i : ℕ) → i < n + 1 → (i < n) ⊎ (n ≡ i)
    last i l = elim (cases_lt i n) [
      | inl below ↦ inl below
      | inr above ↦ inr (omega arith)
    ]

    by : (i : ℕ) → (i < n) ⊎ (n ≡ i) → Contains (js ++ joined_at ranks n ∷ []) (joined_at ranks i)
    by i (inl l) = Contains-append_left js _ _ (are.complete i l)
    by i (inr e) = subst (λ j. Contains (js ++ joined_at ranks n ∷ []) (joined_at ranks j)) e (Contains-push js _)

place_back : (r i : ℕ) → i < 4294967296 → (r * 4294967296 + i) % 4294967296 ≡ i
place_back r i l = omega arith

below : (a b : ℕ) → nat_cmp a b ≡ Less → a < b
below a b h = grind (arith, nat_tests)

is_below : (a b : ℕ) → a < b → nat_cmp a b ≡ Less
is_below a b h = grind (arith, nat_tests)

is_level : (a : ℕ) (o : Ordering) → ordering_then (nat_cmp a a) o ≡ o
is_level a o = ap (λ r. ordering_then r o) (tied_itself nat_cmp_total a)

-- smaller numbers have a smaller rank, or the same and a smaller place
rises : (r s i j : ℕ) → i < 4294967296 → j < 4294967296 → r * 4294967296 + i < s * 4294967296 + j → ordering_then (nat_cmp r s) (nat_cmp i j) ≡ Less
rises r s i j k l h = elim (cases_lt r s) [
  | inl up ↦ ap (λ o. ordering_then o (nat_cmp i j)) (is_below r s up)
  | inr same ↦
      let e : r ≡ s = omega arith in
      let up : i < j = omega arith in
      subst (λ t. ordering_then (nat_cmp r t) (nat_cmp i j) ≡ Less) e (is_level r (nat_cmp i j) ∙ is_below i j up)
]

-- the numbers in their order, as places
pub joined_in_order : (ranks old new : List ℕ) → length ranks ≤ 2 ^ 32 → AreJoined ranks (length ranks) old → ListsExactly nat_cmp (Contains old) new
    → ListsExactly (rank_cmp ranks) (λ i. i < length ranks) (map (λ j. j % 4294967296) new)
joined_in_order ranks old new small are all =
    mapped_lists nat_cmp (rank_cmp ranks) (λ j. j % 4294967296) (Contains old) (λ i. i < length ranks) new all
    (λ p q h k less.
    let (i, l, is) = are.sound p h in
    let (j, m, also) = are.sound q k in
    let a : p % 4294967296 ≡ i = ap (λ n. n % 4294967296) is ∙ place_back (slice_index ranks i) i (omega (arith, l, small)) in
    let b : q % 4294967296 ≡ j = ap (λ n. n % 4294967296) also ∙ place_back (slice_index ranks j) j (omega (arith, m, small)) in
    rw (a, b) (rises (slice_index ranks i) (slice_index ranks j) i j (omega (arith, l, small)) (omega (arith, m, small)) (rw (is, also) at (below p q less))))
    (λ p h. let (i, l, is) = are.sound p h in
    subst (λ n. n < length ranks) (sym (ap (λ n. n % 4294967296) is ∙ place_back (slice_index ranks i) i (omega (arith, l, small)))) l)
    (λ i l. (joined_at ranks i, are.complete i l, place_back (slice_index ranks i) i (omega (arith, l, small))))
