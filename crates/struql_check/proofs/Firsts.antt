-- The first of several faults.
use Rattle.std.proofs.Common.{◌≡◌, ◌⊎◌, ℕ, ◌+◌, ◌<◌, ◌≤◌, List, [], ◌∷◌, ◌++◌, length, get_or, take, map, arith, refl, sym, ap, ◌∙◌, subst, inl, inr, ⊎_elim}
use Rattle.std.specs.Prelude.{Bool, true, false, Option, Some, None, if◌then◌else◌}
use Rattle.std.proofs.lemmas.Bool.Decides.{nat_tests}
use Rattle.std.proofs.lemmas.List.{take_more, take_all}
use Rattle.std.proofs.lemmas.List.Elements.{Contains-append_left, Contains-append_right, Contains-append_cases}
use Rattle.sd_value.specs.Members.{Contains-nil, Contains-cons_cases, Contains-here, Contains-there}
use Rattle.struql_check.specs.declared.faults.Check.{Check}
use Rattle.struql_check.specs.declared.faults.Fault.{Fault}
use Rattle.struql_check.specs.Faults.{SomeIn, number, IsLeastFault}
use Rattle.struql_check.specs.First.{IsFirst, comes_before, earlier}

-- the same faults by another name
pub first_same : (P Q : Check → ℕ → Type 0) (o : Option Fault) → ((check : Check) (at : ℕ) → P check at → Q check at) → ((check : Check) (at : ℕ) → Q check at → P check at) → IsFirst P o → IsFirst Q o
first_same P Q None to from h = λ check at q. h check at (from check at q)
first_same P Q (Some f) to from h = record { is = to f.check f.at h.is; least = λ other place q. h.least other place (from other place q) }

-- where a fault is there exactly at the one that is told
pub first_exactly : (P : Check → ℕ → Type 0) (o : Option Fault) → ((check : Check) (at : ℕ) → P check at → o ≡ Some (record { check = check; at = at })) → ((f : Fault) → o ≡ Some f → P f.check f.at) → IsFirst P o
first_exactly P None told is = λ check at p. absurd (let e = told check at p in cc)
first_exactly P (Some f) told is = record {
  is = is f refl;
  least = λ other place p. (let e = told other place p in let g : f ≡ record { check = other; at = place } = cc in inr (ap (λ h. h.at) g, (let n : number f.check ≡ number other = ap (λ h. number h.check) g in omega arith)));
}

-- at or behind a fault
abbrev pub IsBehind : Fault → Check → ℕ → Type 0
IsBehind f other place = (f.at < place) ⊎ ((f.at ≡ place) × (number f.check ≤ number other))

turned_before : (f g : Fault) → comes_before g f ≡ true → (g.at < f.at) ⊎ ((g.at ≡ f.at) × (number g.check < number f.check))
turned_before f g e = grind (arith, nat_tests)

not_before : (f g : Fault) → comes_before g f ≡ false → (f.at < g.at) ⊎ ((f.at ≡ g.at) × (number f.check ≤ number g.check))
not_before f g e = grind (arith, nat_tests)

behind_all : (f g : Fault) (other : Check) (place : ℕ) → IsBehind f g.check g.at → IsBehind g other place → IsBehind f other place
behind_all f g other place a b = grind arith

before_behind : (f g : Fault) → (g.at < f.at) ⊎ ((g.at ≡ f.at) × (number g.check < number f.check)) → IsBehind g f.check f.at
before_behind f g a = grind arith

by_test : (b : Bool) (P : Bool → Type 0) → (b ≡ true → P true) → (b ≡ false → P false) → P b
by_test true P t f = t refl
by_test false P t f = f refl

first_of_two : (P Q : Check → ℕ → Type 0) (f g : Fault) → IsLeastFault P f.check f.at → IsLeastFault Q g.check g.at → IsFirst (λ check at. P check at ⊎ Q check at) (if comes_before g f then Some g else Some f)
first_of_two P Q f g p q =
    by_test (comes_before g f) (λ b. IsFirst (λ check at. P check at ⊎ Q check at) (if b then Some g else Some f))
    (λ t. record {
      is = inr q.is;
      least = λ other place h. ⊎_elim (λ k. behind_all g f other place (before_behind f g (turned_before f g t)) (p.least other place k)) (λ k. q.least other place k) h;
    })
    (λ n. record {
      is = inl p.is;
      least = λ other place h. ⊎_elim (λ k. p.least other place k) (λ k. behind_all f g other place (not_before f g n) (q.least other place k)) h;
    })

pub first_both : (P Q : Check → ℕ → Type 0) (a b : Option Fault) → IsFirst P a → IsFirst Q b → IsFirst (λ check at. P check at ⊎ Q check at) (earlier a b)
unfolding earlier
first_both P Q None None p q = λ check at h. ⊎_elim (λ k. p check at k) (λ k. q check at k) h
first_both P Q None (Some g) p q = record { is = inr q.is; least = λ other place h. ⊎_elim (λ k. absurd (p other place k)) (λ k. q.least other place k) h }
first_both P Q (Some f) None p q = record { is = inl p.is; least = λ other place h. ⊎_elim (λ k. p.least other place k) (λ k. absurd (q other place k)) h }
first_both P Q (Some f) (Some g) p q = first_of_two P Q f g p q

-- ---- over the items of a list

pub first_nil : {X : Type 0} (F : X → Check → ℕ → Type 0) → IsFirst (SomeIn F []) None
first_nil F = λ check at h. absurd (Contains-nil h.0 h.1)

pub first_append : {X : Type 0} (F : X → Check → ℕ → Type 0) (xs ys : List X) (a b : Option Fault) → IsFirst (SomeIn F xs) a → IsFirst (SomeIn F ys) b → IsFirst (SomeIn F (xs ++ ys)) (earlier a b)
first_append F xs ys a b p q =
    first_same (λ check at. SomeIn F xs check at ⊎ SomeIn F ys check at) (SomeIn F (xs ++ ys)) (earlier a b)
    (λ check at h. ⊎_elim (λ k. (k.0, Contains-append_left xs ys k.0 k.1, k.2)) (λ k. (k.0, Contains-append_right xs ys k.0 k.1, k.2)) h)
    (λ check at h. ⊎_elim (λ k. inl (h.0, k, h.2)) (λ k. inr (h.0, k, h.2)) (Contains-append_cases xs ys h.0 h.1))
    (first_both (SomeIn F xs) (SomeIn F ys) a b p q)

pub first_one : {X : Type 0} (F : X → Check → ℕ → Type 0) (x : X) (a : Option Fault) → IsFirst (F x) a → IsFirst (SomeIn F (x ∷ [])) a
first_one F x a p =
    first_same (F x) (SomeIn F (x ∷ [])) a
    (λ check at h. (x, Contains-here x [], h))
    (λ check at h. ⊎_elim (λ e. subst (λ y. F y check at) (sym e) h.2) (λ k. absurd (Contains-nil h.0 k)) (Contains-cons_cases x [] h.0 h.1))
    p

-- a step of a loop over the items
pub first_step : {X : Type 0} (F : X → Check → ℕ → Type 0) (xs : List X) (i : ℕ) (x : X) (a b : Option Fault) → i < length xs → x ≡ get_or xs i x → IsFirst (SomeIn F (take i xs)) a → IsFirst (F x) b → IsFirst (SomeIn F (take (i + 1) xs)) (earlier a b)
first_step F xs i x a b l is p q =
    subst (λ ys. IsFirst (SomeIn F ys) (earlier a b)) (sym (take_more xs i x l ∙ ap (λ z. take i xs ++ z ∷ []) (sym is)))
    (first_append F (take i xs) (x ∷ []) a b p (first_one F x b q))

pub first_end : {X : Type 0} (F : X → Check → ℕ → Type 0) (xs : List X) (i : ℕ) (a : Option Fault) → length xs ≤ i → IsFirst (SomeIn F (take i xs)) a → IsFirst (SomeIn F xs) a
first_end F xs i a l p = subst (λ ys. IsFirst (SomeIn F ys) a) (take_all i xs l) p

some_mapped : {X Y : Type 0} (F : Y → Check → ℕ → Type 0) (f : X → Y) (xs : List X) (check : Check) (at : ℕ) → SomeIn (λ x. F (f x)) xs check at → SomeIn F (map f xs) check at
some_mapped F f [] check at h = absurd (Contains-nil h.0 h.1)
some_mapped F f (x ∷ xs) check at h =
    ⊎_elim (λ e. (f x, Contains-here (f x) (map f xs), subst (λ y. F (f y) check at) (sym e) h.2))
    (λ k. (let s = some_mapped F f xs check at (h.0, k, h.2) in (s.0, Contains-there (f x) (map f xs) s.0 s.1, s.2)))
    (Contains-cons_cases x xs h.0 h.1)

mapped_some : {X Y : Type 0} (F : Y → Check → ℕ → Type 0) (f : X → Y) (xs : List X) (check : Check) (at : ℕ) → SomeIn F (map f xs) check at → SomeIn (λ x. F (f x)) xs check at
mapped_some F f [] check at h = absurd (Contains-nil h.0 h.1)
mapped_some F f (x ∷ xs) check at h =
    ⊎_elim (λ e. (x, Contains-here x xs, subst (λ y. F y check at) (sym e) h.2))
    (λ k. (let s = mapped_some F f xs check at (h.0, k, h.2) in (s.0, Contains-there x xs s.0 s.1, s.2)))
    (Contains-cons_cases (f x) (map f xs) h.0 h.1)

pub first_map : {X Y : Type 0} (F : Y → Check → ℕ → Type 0) (f : X → Y) (xs : List X) (a : Option Fault) → IsFirst (SomeIn (λ x. F (f x)) xs) a → IsFirst (SomeIn F (map f xs)) a
first_map F f xs a p = first_same (SomeIn (λ x. F (f x)) xs) (SomeIn F (map f xs)) a (some_mapped F f xs) (mapped_some F f xs) p
