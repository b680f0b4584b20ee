-- Lists without repeats: one that numbers tell apart, and one within another.
use Rattle.std.specs.Prelude.{◌≡◌, ◌<◌, ◌≤◌, ℕ, suc, List, [], ◌∷◌, Contains, length, ⊤}
use Rattle.std.proofs.Common.{inl, inr, sym, subst, arith, ◌∙◌}
use Rattle.sd_value.specs.Members.{IsOneOf, IsOneOf-from_Contains, Contains-here, Contains-there, Contains-nil}
use Rattle.weight_spec.specs.Distinct.{IsDistinct}

-- the numbers of the items rise
abbrev pub Rise : {X : Type 0} → (X → ℕ) → List X → Type 0
Rise f [] = ⊤
Rise f (x ∷ []) = ⊤
Rise f (x ∷ y ∷ ys) = (f x < f y) × Rise f (y ∷ ys)

above : {X : Type 0} (f : X → ℕ) (x : X) (xs : List X) → Rise f (x ∷ xs) → (z : X) → IsOneOf xs z → f x < f z
above f x [] rise z h = absurd h
above f x (y ∷ ys) rise z (inl e) = subst (λ w. f x < f w) e rise.0
above f x (y ∷ ys) rise z (inr h) = let low = above f y ys rise.1 z h in omega (arith, rise.0, low)

pub distinct_by : {X : Type 0} (f : X → ℕ) (xs : List X) → Rise f xs → IsDistinct xs
distinct_by f [] rise = tt
distinct_by f (x ∷ []) rise = (Contains-nil x, tt)
distinct_by f (x ∷ y ∷ ys) rise =
    (λ h. let low = above f x (y ∷ ys) rise x (IsOneOf-from_Contains (y ∷ ys) x h) in absurd (omega (arith, low)), distinct_by f (y ∷ ys) rise.1)

-- the list without one of its items
abbrev without : {X : Type 0} (ys : List X) (x : X) → IsOneOf ys x → List X
without [] x h = []
without (y ∷ ys) x (inl e) = ys
without (y ∷ ys) x (inr h) = y ∷ without ys x h

without_length : {X : Type 0} (ys : List X) (x : X) (h : IsOneOf ys x) → length ys ≡ suc (length (without ys x h))
without_length [] x h = absurd h
without_length (y ∷ ys) x (inl e) = omega arith
without_length (y ∷ ys) x (inr h) = let rest = without_length ys x h in omega (arith, rest)

without_others : {X : Type 0} (ys : List X) (x : X) (h : IsOneOf ys x) (z : X) → (x ≡ z → ⊥) → IsOneOf ys z → IsOneOf (without ys x h) z
without_others [] x h z apart k = absurd h
without_others (y ∷ ys) x (inl e) z apart (inl i) = absurd (apart (sym e ∙ i))
without_others (y ∷ ys) x (inl e) z apart (inr k) = k
without_others (y ∷ ys) x (inr h) z apart (inl i) = inl i
without_others (y ∷ ys) x (inr h) z apart (inr k) = inr (without_others ys x h z apart k)

-- a list without repeats has no more items than one that has them all
pub distinct_within : {X : Type 0} (xs ys : List X) → IsDistinct xs → ((x : X) → Contains xs x → IsOneOf ys x) → length xs ≤ length ys
distinct_within [] ys d within = omega arith
distinct_within (x ∷ xs) ys d within =
    let at = within x (Contains-here x xs) in
    let rest = distinct_within xs (without ys x at) d.1 (λ z h. without_others ys x at z (λ e. d.0 (subst (Contains xs) (sym e) h)) (within z (Contains-there x xs z h))) in
    omega (arith, rest, without_length ys x at)
