-- Inserting elements one after another: which list it is depends on the elements alone.
use Rattle.std.specs.Prelude.{◌≡◌, ◌⊎◌, List, [], ◌∷◌, ℕ, length, ◌+◌, ◌≤◌, Contains}
use Rattle.std.specs.declared.cmp.Ordering.{Ordering}
use Rattle.std.specs.BTreeSet.{insert_key}
use Rattle.std.specs.Cmp.{IsTotalOrder}
use Rattle.std.specs.FinMap.{IsAntisymmetric}
use Rattle.std.specs.List.{insert}
use Rattle.std.specs.List.Sorted.{IsStrictlySortedBy}
use Rattle.std.proofs.Common.{arith, refl, sym, subst, inl, inr, take, drop}
use Rattle.std.proofs.lemmas.List.{take-append-drop}
use Rattle.std.proofs.lemmas.List.Elements.{Contains-append_cases, Contains-append_left, Contains-append_right}
use Rattle.sd_value.specs.Members.{Contains-nil, Contains-cons_cases, Contains-here, Contains-there}
use Rattle.sd_value.specs.Ascending.{ListsExactly}
use Rattle.sd_value.specs.AscendingLaws.{same_list}
use Rattle.sd_graph.specs.Inserted.{inserted-there, inserted-cases, inserted-here, inserted-ascends, length-inserted_most}
use Rattle.sd_graph.specs.Gathered.{insert_all}

-- an element of a list is one of its front or of what follows
inserted_at-cases : {X : Type 0} (xs : List X) (i : ℕ) (x z : X) → Contains (insert xs i x) z → (x ≡ z) ⊎ Contains xs z
inserted_at-cases xs i x z h =
    elim (Contains-append_cases (take i xs) (x ∷ drop i xs) z h) [
      | inl front ↦ inr (subst (λ ys. Contains ys z) (take-append-drop i xs) (Contains-append_left (take i xs) (drop i xs) z front))
      | inr back ↦ elim (Contains-cons_cases x (drop i xs) z back) [
        | inl is ↦ inl is
        | inr rest ↦ inr (subst (λ ys. Contains ys z) (take-append-drop i xs) (Contains-append_right (take i xs) (drop i xs) z rest))
      ]
    ]

inserted_at-here : {X : Type 0} (xs : List X) (i : ℕ) (x : X) → Contains (insert xs i x) x
inserted_at-here xs i x = Contains-append_right (take i xs) (x ∷ drop i xs) x (Contains-here x (drop i xs))

inserted_at-there : {X : Type 0} (xs : List X) (i : ℕ) (x z : X) → Contains xs z → Contains (insert xs i x) z
inserted_at-there xs i x z h =
    elim (Contains-append_cases (take i xs) (drop i xs) z (subst (λ ys. Contains ys z) (sym (take-append-drop i xs)) h)) [
      | inl front ↦ Contains-append_left (take i xs) (x ∷ drop i xs) z front
      | inr back ↦ Contains-append_right (take i xs) (x ∷ drop i xs) z (Contains-there x (drop i xs) z back)
    ]

pub none_from_length : {X : Type 0} (xs : List X) → length xs ≡ 0 → xs ≡ []
none_from_length [] is = refl
none_from_length (x ∷ xs) is = absurd (omega (arith, is))

module _ {X : Type 0} (R : X → X → Ordering) where
  pub length-all_inserted : (keys xs : List X) → length (insert_all R keys xs) ≤ length keys + length xs
  length-all_inserted keys [] = omega arith
  length-all_inserted keys (x ∷ xs) = let most = length-inserted_most R x keys in let rest = length-all_inserted (insert_key R keys x) xs in omega arith

  pub all_inserted-there : (keys xs : List X) (z : X) → Contains keys z → Contains (insert_all R keys xs) z
  all_inserted-there keys [] z h = h
  all_inserted-there keys (x ∷ xs) z h = all_inserted-there (insert_key R keys x) xs z (inserted-there R x keys z h)

  pub all_inserted-cases : (keys xs : List X) (z : X) → Contains (insert_all R keys xs) z → Contains keys z ⊎ Contains xs z
  all_inserted-cases keys [] z h = inl h
  all_inserted-cases keys (x ∷ xs) z h =
      elim (all_inserted-cases (insert_key R keys x) xs z h) [
        | inl front ↦ elim (inserted-cases R x keys z front) [ inl is ↦ inr (subst (Contains (x ∷ xs)) is (Contains-here x xs)) | inr old ↦ inl old ]
        | inr back ↦ inr (Contains-there x xs z back)
      ]

module _ {X : Type 0} {R : X → X → Ordering} (total : IsTotalOrder R) (exact : IsAntisymmetric R) where
  pub all_inserted-ascends : (keys xs : List X) → IsStrictlySortedBy R keys → IsStrictlySortedBy R (insert_all R keys xs)
  all_inserted-ascends keys [] up = up
  all_inserted-ascends keys (x ∷ xs) up = all_inserted-ascends (insert_key R keys x) xs (inserted-ascends R total x keys up)

  pub all_inserted-here : (keys xs : List X) (z : X) → Contains xs z → Contains (insert_all R keys xs) z
  all_inserted-here keys [] z h = absurd (Contains-nil z h)
  all_inserted-here keys (x ∷ xs) z h =
      elim (Contains-cons_cases x xs z h) [
        | inl is ↦ all_inserted-there R (insert_key R keys x) xs z (subst (Contains (insert_key R keys x)) is (inserted-here R exact x keys))
        | inr rest ↦ all_inserted-here (insert_key R keys x) xs z rest
      ]

  -- one element more, wherever it is put
  pub one_more : (keys xs : List X) (i : ℕ) (x : X) → IsStrictlySortedBy R keys → insert_all R keys (insert xs i x) ≡ insert_key R (insert_all R keys xs) x
  one_more keys xs i x up =
      same_list total _ _ (all_inserted-ascends keys (insert xs i x) up) (inserted-ascends R total x _ (all_inserted-ascends keys xs up))
      (λ z h. elim (all_inserted-cases R keys (insert xs i x) z h) [
        | inl old ↦ inserted-there R x _ z (all_inserted-there R keys xs z old)
        | inr new ↦ elim (inserted_at-cases xs i x z new) [
          | inl is ↦ subst (Contains (insert_key R (insert_all R keys xs) x)) is (inserted-here R exact x _)
          | inr rest ↦ inserted-there R x _ z (all_inserted-here keys xs z rest)
        ]
      ])
      (λ z h. elim (inserted-cases R x (insert_all R keys xs) z h) [
        | inl is ↦ all_inserted-here keys (insert xs i x) z (subst (Contains (insert xs i x)) is (inserted_at-here xs i x))
        | inr old ↦ elim (all_inserted-cases R keys xs z old) [
          | inl front ↦ all_inserted-there R keys (insert xs i x) z front
          | inr back ↦ all_inserted-here keys (insert xs i x) z (inserted_at-there xs i x z back)
        ]
      ])

  -- inserting all, where some were inserted before, changes nothing
  pub inserted_again : (keys xs : List X) (i : ℕ) → IsStrictlySortedBy R keys → insert_all R (insert_all R keys (take i xs)) xs ≡ insert_all R keys xs
  inserted_again keys xs i up =
      let some = all_inserted-ascends keys (take i xs) up in
      same_list total _ _ (all_inserted-ascends _ xs some) (all_inserted-ascends keys xs up)
      (λ z h. elim (all_inserted-cases R (insert_all R keys (take i xs)) xs z h) [
        | inl old ↦ elim (all_inserted-cases R keys (take i xs) z old) [
          | inl front ↦ all_inserted-there R keys xs z front
          | inr taken ↦ all_inserted-here keys xs z (subst (λ ys. Contains ys z) (take-append-drop i xs) (Contains-append_left (take i xs) (drop i xs) z taken))
        ]
        | inr new ↦ all_inserted-here keys xs z new
      ])
      (λ z h. elim (all_inserted-cases R keys xs z h) [
        | inl old ↦ all_inserted-there R _ xs z (all_inserted-there R keys (take i xs) z old)
        | inr new ↦ all_inserted-here _ xs z new
      ])

  -- the ascending list of exactly these elements
  pub inserted_as_listed : (keys xs ys : List X) → keys ≡ [] → IsStrictlySortedBy R keys → ListsExactly R (Contains xs) ys → ys ≡ insert_all R keys xs
  inserted_as_listed keys xs ys none up h =
      same_list total _ _ h.ascending (all_inserted-ascends keys xs up)
      (λ z m. all_inserted-here keys xs z (h.sound z m))
      (λ z m. elim (all_inserted-cases R keys xs z m) [ inl old ↦ absurd (Contains-nil z (subst (λ ks. Contains ks z) none old)) | inr new ↦ h.complete z new ])
