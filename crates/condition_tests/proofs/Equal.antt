-- When values are equal, as tests tell it.
use Rattle.std.proofs.Common.{◌≡◌, ℕ, zero, suc, ◌+◌, ◌≤◌, List, [], ◌∷◌, ◌++◌, take, add-one, length, arith, refl, ap, sym, ◌∙◌, inl, inr, subst}
use Rattle.std.specs.Prelude.{◌⊎◌, ◌↔◌, IsTrue, Bool, true, false, Contains, Some, slice_get}
use Rattle.std.specs.Ordering.{eq_by_cmp}
use Rattle.std.proofs.lemmas.List.Elements.{Contains-append_cases, Contains-append_left, Contains-append_right, Contains-push_cases, Contains-push}
use Rattle.sd_value.specs.Members.{Contains-nil}
use Rattle.sd_value.specs.declared.Datum.TheVariants.{Int, Text}
use Rattle.sd_value.specs.declared.Value.TheVariants.{Data}
use Rattle.sd_value.specs.declared.Value.{Value}
use Rattle.sd_value.specs.Order.{value_cmp}
use Rattle.sd_value.specs.OrderLaws.{same_value, value_same}
use Rattle.query_spec.specs.Holds.{IsEqual, IsTwinOf}
use Rattle.condition_tests.specs.Meaning.{IsOneOf}

values_equal : (u v : Value) (b : Bool) → b ≡ eq_by_cmp value_cmp u v → b ≡ true → u ≡ v
values_equal u v b e t = same_value u v (sym e ∙ t)

equal_values : (u v : Value) (b : Bool) → b ≡ eq_by_cmp value_cmp u v → u ≡ v → b ≡ true
equal_values u v b e same = e ∙ subst (λ z. eq_by_cmp value_cmp u z ≡ true) same (value_same u)

module _ (version : ℕ) (u v : Value) where
  pub equal_same : (b : Bool) → b ≡ eq_by_cmp value_cmp u v → b ≡ true → (IsTrue b ↔ IsEqual version u v)
  equal_same b e t = ((λ yes. inl (values_equal u v b e t)), (λ h. t))

  pub equal_twins : (b twins : Bool) → b ≡ eq_by_cmp value_cmp u v → b ≡ false → (IsTrue twins ↔ IsTwinOf version u v) → (IsTrue twins ↔ IsEqual version u v)
  equal_twins b twins e f h = (
    (λ yes. inr (h.0 yes)),
    elim [ inl same ↦ (let t = equal_values u v b e same in cc) | inr twin ↦ h.1 twin ],
  )

take_more : (xs : List Value) (i : ℕ) (x : Value) → slice_get xs i ≡ Some x → take (suc i) xs ≡ take i xs ++ x ∷ []
take_more [] i x h = cc
take_more (y ∷ xs) zero x h = let e : x ≡ y = cc in ap (λ z. z ∷ []) (sym e)
take_more (y ∷ xs) (suc i) x h = ap (λ zs. y ∷ zs) (take_more xs i x h)

twin_turned : (version : ℕ) (u v : Value) → IsTwinOf version u v → IsTwinOf version v u
twin_turned version (Data (Int n)) (Data (Text s)) h = h
twin_turned version (Data (Text s)) (Data (Int n)) h = h
twin_turned version u v h = absurd h

pub equal_turned : (version : ℕ) (u v : Value) → IsEqual version u v → IsEqual version v u
equal_turned version u v (inl e) = inl (sym e)
equal_turned version u v (inr h) = inr (twin_turned version u v h)

module _ (version : ℕ) where
  some_more : (constants : List Value) (i : ℕ) (k : Value) (w : Value) → slice_get constants i ≡ Some k → (IsOneOf version (take i constants) w ⊎ IsEqual version k w) ↔ IsOneOf version (take (i + 1) constants) w
  some_more constants i k w h =
      let grown : take (i + 1) constants ≡ take i constants ++ k ∷ [] = rw add-one (take_more constants i k h) in (
        (λ c. elim c [
          | inl old ↦ (old.0, subst (λ xs. Contains xs old.0) (sym grown) (Contains-append_left (take i constants) (k ∷ []) old.0 old.1), old.2)
          | inr e ↦ (k, subst (λ xs. Contains xs k) (sym grown) (Contains-push (take i constants) k), equal_turned version k w e)
        ]),
        (λ c. elim (Contains-push_cases (take i constants) k c.0 (subst (λ xs. Contains xs c.0) grown c.1)) [
          | inl old ↦ inl (c.0, old, c.2)
          | inr e ↦ inr (equal_turned version w k (subst (λ x. IsEqual version w x) (sym e) c.2))
        ]),
      )

  pub equals-none : (w : Value) → Contains [] w ↔ IsOneOf version [] w
  equals-none w = ((λ c. absurd (Contains-nil w c)), (λ h. absurd (Contains-nil h.0 h.1)))

  pub equals-more : (constants : List Value) (i : ℕ) (k : Value) (old more new : List Value) → slice_get constants i ≡ Some k → ((w : Value) → Contains old w ↔ IsOneOf version (take i constants) w) → ((w : Value) → Contains more w ↔ IsEqual version k w)
      → new ≡ old ++ more → (w : Value) → Contains new w ↔ IsOneOf version (take (i + 1) constants) w
  equals-more constants i k old more new h before here e w =
      let step = some_more constants i k w h in (
        (λ c. elim (Contains-append_cases old more w (subst (λ xs. Contains xs w) e c)) [
          | inl a ↦ step.0 (inl ((before w).0 a))
          | inr b ↦ step.0 (inr ((here w).0 b))
        ]),
        (λ c. subst (λ xs. Contains xs w) (sym e) (elim (step.1 c) [
          | inl a ↦ Contains-append_left old more w ((before w).1 a)
          | inr b ↦ Contains-append_right old more w ((here w).1 b)
        ])),
      )

take_whole : (xs : List Value) (n : ℕ) → length xs ≤ n → take n xs ≡ xs
take_whole [] zero l = refl
take_whole [] (suc n) l = refl
take_whole (x ∷ xs) zero l = absurd (omega (arith, l))
take_whole (x ∷ xs) (suc n) l = ap (λ ys. x ∷ ys) (take_whole xs n (omega (arith, l)))

pub equals-all : (version : ℕ) (constants all : List Value) (n : ℕ) (values : List Value) → constants ≡ all → length constants ≤ n → ((w : Value) → Contains values w ↔ IsOneOf version (take n constants) w) → (w : Value) → Contains values w ↔ IsOneOf version all w
equals-all version constants all n values e l h w = subst (λ xs. Contains values w ↔ IsOneOf version xs w) (take_whole constants n l ∙ e) (h w)
