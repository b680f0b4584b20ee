-- Laws of what is known of a row.
use Rattle.std.proofs.Common.{◌≡◌, ℕ, zero, suc, ◌+◌, ◌<◌, List, [], ◌∷◌, ◌++◌, take, get_or, add-one, length, arith, refl, ap, inl, inr}
use Rattle.std.specs.Prelude.{Option, None, Some, slice_get, slice_set, ◌⊎◌}
use Rattle.sd_value.specs.declared.Value.{Value}
use Rattle.condition_tests.specs.Known.{known_part, Agrees}

-- how many variables have no value yet
abbrev pub free_count : List (Option Value) → ℕ
free_count [] = 0
free_count (None ∷ s) = 1 + free_count s
free_count (Some v ∷ s) = free_count s

pub slice_get-set_same : {X : Type 0} (xs : List X) (k : ℕ) (x y : X) → slice_get xs k ≡ Some x → slice_get (slice_set xs k y) k ≡ Some y
slice_get-set_same [] k x y h = cc
slice_get-set_same (z ∷ xs) zero x y h = refl
slice_get-set_same (z ∷ xs) (suc k) x y h = slice_get-set_same xs k x y h

-- another element, or the same place
pub slice_get-set_cases : {X : Type 0} (xs : List X) (k j : ℕ) (y : X) → (j ≡ k) ⊎ (slice_get (slice_set xs k y) j ≡ slice_get xs j)
slice_get-set_cases [] k j y = inr refl
slice_get-set_cases (z ∷ xs) zero zero y = inl refl
slice_get-set_cases (z ∷ xs) zero (suc j) y = inr refl
slice_get-set_cases (z ∷ xs) (suc k) zero y = inr refl
slice_get-set_cases (z ∷ xs) (suc k) (suc j) y = elim (slice_get-set_cases xs k j y) [ inl e ↦ inl (ap suc e) | inr e ↦ inr e ]

pub set_back : {X : Type 0} (xs : List X) (k : ℕ) (x y : X) → slice_get xs k ≡ Some x → slice_set (slice_set xs k y) k x ≡ xs
set_back [] k x y h = refl
set_back (z ∷ xs) zero x y h = ap (λ w. w ∷ xs) cc
set_back (z ∷ xs) (suc k) x y h = ap (λ ws. z ∷ ws) (set_back xs k x y h)

pub length-set : {X : Type 0} (xs : List X) (k : ℕ) (y : X) → length (slice_set xs k y) ≡ length xs
length-set [] k y = refl
length-set (z ∷ xs) zero y = refl
length-set (z ∷ xs) (suc k) y = ap suc (length-set xs k y)

pub free_count-set : (s : List (Option Value)) (k : ℕ) (v : Value) → slice_get s k ≡ Some None → free_count (slice_set s k (Some v)) < free_count s
free_count-set [] k v h = cc
free_count-set (None ∷ s) zero v h = omega arith
free_count-set (Some w ∷ s) zero v h = cc
free_count-set (None ∷ s) (suc k) v h = omega (arith, free_count-set s k v h)
free_count-set (Some w ∷ s) (suc k) v h = free_count-set s k v h

head_or_rest : (w : Value) (s : List (Option Value)) (t : List Value) → Agrees t s → (k : ℕ) (v : Value) → slice_get (Some w ∷ s) k ≡ Some (Some v) → slice_get (w ∷ t) k ≡ Some v
head_or_rest w s t a zero v h = cc
head_or_rest w s t a (suc k) v h = a.same k v h

-- where nothing is free, the one row that agrees is that of the known values
pub known_part-agrees : (s : List (Option Value)) → ((k : ℕ) → slice_get s k ≡ Some None → ⊥) → Agrees (known_part s) s
known_part-agrees [] full = record { as_long = refl; same = λ k v h. cc }
known_part-agrees (None ∷ s) full = absurd (full zero refl)
known_part-agrees (Some w ∷ s) full =
    let rest = known_part-agrees s (λ k h. full (suc k) h) in
    record { as_long = ap suc rest.as_long; same = head_or_rest w s (known_part s) rest }

pub tail_agrees : (w : Value) (o : Option Value) (t : List Value) (s : List (Option Value)) → Agrees (w ∷ t) (o ∷ s) → Agrees t s
tail_agrees w o t s a = record { as_long = cc; same = λ k v h. a.same (suc k) v h }

pub agrees-known_part : (t : List Value) (s : List (Option Value)) → ((k : ℕ) → slice_get s k ≡ Some None → ⊥) → Agrees t s → known_part s ≡ t
agrees-known_part [] [] full a = refl
agrees-known_part [] (o ∷ s) full a = cc
agrees-known_part (w ∷ t) [] full a = cc
agrees-known_part (w ∷ t) (None ∷ s) full a = absurd (full zero refl)
agrees-known_part (w ∷ t) (Some v ∷ s) full a =
    let first = a.same zero v refl in
    let rest = agrees-known_part t s (λ k h. full (suc k) h) (tail_agrees w (Some v) t s a) in
    cc

take_some : (s : List (Option Value)) (i : ℕ) (d : Option Value) (v : Value) → i < length s → get_or s i d ≡ Some v → known_part (take (suc i) s) ≡ known_part (take i s) ++ v ∷ []
take_some [] i d v l h = absurd (omega arith)
take_some (None ∷ s) zero d v l h = cc
take_some (Some w ∷ s) zero d v l h = ap (λ x. x ∷ []) cc
take_some (None ∷ s) (suc i) d v l h = take_some s i d v (omega arith) h
take_some (Some w ∷ s) (suc i) d v l h = ap (λ xs. w ∷ xs) (take_some s i d v (omega arith) h)

take_none : (s : List (Option Value)) (i : ℕ) (d : Option Value) → i < length s → get_or s i d ≡ None → known_part (take (suc i) s) ≡ known_part (take i s)
take_none [] i d l h = absurd (omega arith)
take_none (None ∷ s) zero d l h = refl
take_none (Some w ∷ s) zero d l h = cc
take_none (None ∷ s) (suc i) d l h = take_none s i d (omega arith) h
take_none (Some w ∷ s) (suc i) d l h = ap (λ xs. w ∷ xs) (take_none s i d (omega arith) h)

pub known_part-take_some : (s : List (Option Value)) (i : ℕ) (d : Option Value) (v : Value) → i < length s → get_or s i d ≡ Some v → known_part (take (i + 1) s) ≡ known_part (take i s) ++ v ∷ []
known_part-take_some s i d v l h = rw add-one (take_some s i d v l h)

pub known_part-take_none : (s : List (Option Value)) (i : ℕ) (d : Option Value) → i < length s → get_or s i d ≡ None → known_part (take (i + 1) s) ≡ known_part (take i s)
known_part-take_none s i d l h = rw add-one (take_none s i d l h)
