-- What holds or doesn't, by its parts.
use Rattle.std.proofs.Common.{◌≡◌, ◌⊎◌, ℕ, zero, suc, ◌<◌, List, [], ◌∷◌, inl, inr, ⊎_elim, refl, sym, ap, subst, arith}
use Rattle.std.specs.Prelude.{Contains, All}
use Rattle.std.specs.declared.cmp.Ordering.{Ordering}
use Rattle.std.specs.declared.cmp.Ordering.TheVariants.{Less, Equal, Greater}
use Rattle.std.specs.Cmp.{IsTotalOrder}
use Rattle.std.specs.FinMap.{IsAntisymmetric}
use Rattle.std.proofs.lemmas.Cmp.{tied_itself}
use Rattle.std.proofs.lemmas.Bool.Decides.{eqb_tells}
use Rattle.std.proofs.lemmas.List.Elements.{All-nil, All-cons, All-head, All-tail}
use Rattle.sd_value.specs.Members.{Contains-nil, Contains-cons_cases, Contains-here, Contains-there}

-- it holds, or it doesn't
pub data Dec (P : Type 0) : Type 0 where
  yes : P → Dec P
  no : (P → ⊥) → Dec P

pub dec_as : {P Q : Type 0} → (P → Q) → (Q → P) → Dec P → Dec Q
dec_as to from (yes p) = yes (to p)
dec_as to from (no n) = no (λ q. n (from q))

pub dec_not : {P : Type 0} → Dec P → Dec (P → ⊥)
dec_not (yes p) = no (λ n. n p)
dec_not (no n) = yes n

pub dec_both : {P Q : Type 0} → Dec P → Dec Q → Dec (P × Q)
dec_both (yes p) (yes q) = yes (p, q)
dec_both (yes p) (no n) = no (λ h. n h.1)
dec_both (no n) d = no (λ h. n h.0)

pub dec_either : {P Q : Type 0} → Dec P → Dec Q → Dec (P ⊎ Q)
dec_either (yes p) d = yes (inl p)
dec_either (no n) (yes q) = yes (inr q)
dec_either (no n) (no m) = no (λ h. ⊎_elim n m h)

-- one of the elements has P
pub dec_some : {X : Type 0} (P : X → Type 0) → ((x : X) → Dec (P x)) → (xs : List X)
    → Dec ((x : X) × Contains xs x × P x)
dec_some P each [] = no (λ h. Contains-nil h.0 h.1)
dec_some {X} P each (x ∷ xs) = by (each x) (dec_some P each xs)
  where
    by : Dec (P x) → Dec ((y : X) × Contains xs y × P y) → Dec ((y : X) × Contains (x ∷ xs) y × P y)
    by (yes p) d = yes (x, Contains-here x xs, p)
    by (no n) (yes s) = yes (s.0, Contains-there x xs s.0 s.1, s.2)
    by (no n) (no m) = no (λ h. ⊎_elim (λ e. n (subst P (sym e) h.2)) (λ k. m (h.0, k, h.2))
        (Contains-cons_cases x xs h.0 h.1))

-- each element has P
pub dec_all : {X : Type 0} (P : X → Type 0) → ((x : X) → Dec (P x)) → (xs : List X) → Dec (All P xs)
dec_all P each [] = yes (All-nil P)
dec_all P each (x ∷ xs) = by (each x) (dec_all P each xs)
  where
    by : Dec (P x) → Dec (All P xs) → Dec (All P (x ∷ xs))
    by (yes p) (yes a) = yes (All-cons P x xs p a)
    by (yes p) (no m) = no (λ h. m (All-tail P x xs h))
    by (no n) d = no (λ h. n (All-head P x xs h))

-- two are one
module _ {X : Type 0} (R : X → X → Ordering) (total : IsTotalOrder R) (exact : IsAntisymmetric R) where
  pub dec_same : (a b : X) → Dec (a ≡ b)
  dec_same a b = by (R a b) refl
    where
      by : (r : Ordering) → R a b ≡ r → Dec (a ≡ b)
      by Equal e = yes (exact a b e)
      by Less e = no (λ same. let tied = tied_itself total a in let at : R a a ≡ R a b = ap (R a) same in cc)
      by Greater e = no (λ same. let tied = tied_itself total a in let at : R a a ≡ R a b = ap (R a) same in cc)

  pub dec_in : (xs : List X) (x : X) → Dec (Contains xs x)
  dec_in xs x =
      dec_as (λ h. subst (Contains xs) h.2 h.1) (λ h. (x, h, refl)) (dec_some (λ y. y ≡ x) (λ y. dec_same y x) xs)

pub dec_nat : (a b : ℕ) → Dec (a ≡ b)
dec_nat a b = elim (eqb_tells a b) [ inl h ↦ yes h.1 | inr h ↦ no h.1 ]

-- a number below n has P
pub dec_below : (P : ℕ → Type 0) → ((k : ℕ) → Dec (P k)) → (n : ℕ) → Dec ((k : ℕ) × (k < n) × P k)
dec_below P each zero = no (λ h. absurd (omega (arith, h.1)))
dec_below P each (suc n) = by (each n) (dec_below P each n)
  where
    last : (k : ℕ) → k < suc n → P k → (P n → ⊥) → ((k : ℕ) × (k < n) × P k → ⊥) → Dec (k ≡ n) → ⊥
    last k lt p m none (yes e) = m (subst P e p)
    last k lt p m none (no d) = none (k, omega (arith, d), p)

    by : Dec (P n) → Dec ((k : ℕ) × (k < n) × P k) → Dec ((k : ℕ) × (k < suc n) × P k)
    by (yes p) d = yes (n, omega arith, p)
    by (no m) (yes s) = yes (s.0, omega (arith, s.1), s.2)
    by (no m) (no none) = no (λ h. last h.0 h.1 h.2 m none (dec_nat h.0 n))
