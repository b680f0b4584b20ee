-- All terms whose parts are short.
use Rattle.std.proofs.Common.{◌≡◌, ◌⊎◌, ℕ, zero, suc, ℤ, pos, negsuc, ◌≤◌, ◌<◌, ◌^◌, List, [], ◌∷◌, length, inl, inr, refl, sym, ap, subst, arith}
use Rattle.std.specs.Prelude.{Contains, All}
use Rattle.std.specs.Int.Signed.{mag}
use Rattle.std.proofs.lemmas.List.Elements.{All-nil, All-cons, All-head, All-tail}
use Rattle.sd_value.specs.Names.{Name}
use Rattle.sd_value.specs.declared.Datum.{Datum}
use Rattle.sd_value.specs.declared.Datum.TheVariants.{Int, Text, Url, File, Node}
use Rattle.sd_value.specs.declared.Term.{Term}
use Rattle.page_spec.specs.Address.{IsBytes}
use Rattle.site_graphs.proofs.Decide.{yes, no, dec_nat}
use Rattle.site_graphs.proofs.Lists.{AllOf, all_none, all_one, all_in, all_as, all_either, all_from}

pub all_below : (n : ℕ) → AllOf (λ k. k < n)
all_below zero = all_none (λ k. k < zero) (λ k h. omega (arith, h))
all_below (suc n) =
    all_as (λ k. (k < n) ⊎ (n ≡ k)) (λ k. k < suc n) to from
    (all_either (λ k. k < n) (λ k. n ≡ k) (all_below n) (all_one n (λ k. n ≡ k) refl (λ k e. e)))
  where
    to : (k : ℕ) → (k < n) ⊎ (n ≡ k) → k < suc n
    to k (inl h) = omega (arith, h)
    to k (inr e) = omega (arith, e)

    from : (k : ℕ) → k < suc n → (k < n) ⊎ (n ≡ k)
    from k h = elim (dec_nat n k) [ yes e ↦ inr e | no d ↦ inl (omega (arith, h, d)) ]

-- all lists of at most n elements that all have P
pub all_lists : {X : Type 0} (P : X → Type 0) → AllOf P → (n : ℕ) → AllOf (λ xs. (length xs ≤ n) × All P xs)
all_lists {X} P all zero =
    all_one [] (λ xs. (length xs ≤ zero) × All P xs) (omega arith, All-nil P) only
  where
    only : (xs : List X) → (length xs ≤ zero) × All P xs → [] ≡ xs
    only [] h = refl
    only (x ∷ xs) h = absurd (omega (arith, h.0))
all_lists {X} P all (suc n) =
    all_as
    (λ (xs : List X). ([] ≡ xs)
    ⊎ ((x : X) × P x × ((rest : List X) × ((length rest ≤ n) × All P rest) × (x ∷ rest ≡ xs))))
    (λ xs. (length xs ≤ suc n) × All P xs) to from
    (all_either (λ (xs : List X). [] ≡ xs)
    (λ (xs : List X). (x : X) × P x × ((rest : List X) × ((length rest ≤ n) × All P rest) × (x ∷ rest ≡ xs)))
    (all_one [] (λ (xs : List X). [] ≡ xs) refl (λ xs e. e))
    (all_from P (λ (x : X) (xs : List X). (rest : List X) × ((length rest ≤ n) × All P rest) × (x ∷ rest ≡ xs)) all
    (λ x. all_from (λ rest. (length rest ≤ n) × All P rest) (λ (rest xs : List X). x ∷ rest ≡ xs) (all_lists P all n)
    (λ rest. all_one (x ∷ rest) (λ (xs : List X). x ∷ rest ≡ xs) refl (λ xs e. e)))))
  where
    to : (xs : List X)
        → ([] ≡ xs) ⊎ ((x : X) × P x × ((rest : List X) × ((length rest ≤ n) × All P rest) × (x ∷ rest ≡ xs)))
        → (length xs ≤ suc n) × All P xs
    to xs (inl e) = subst (λ ys. (length ys ≤ suc n) × All P ys) e (omega arith, All-nil P)
    to xs (inr h) =
        let few = h.2.1.0 in
        subst (λ ys. (length ys ≤ suc n) × All P ys) h.2.2
        (omega (arith, few), All-cons P h.0 h.2.0 h.1 h.2.1.1)

    from : (xs : List X) → (length xs ≤ suc n) × All P xs
        → ([] ≡ xs) ⊎ ((x : X) × P x × ((rest : List X) × ((length rest ≤ n) × All P rest) × (x ∷ rest ≡ xs)))
    from [] h = inl refl
    from (x ∷ xs) h = inr (x, All-head P x xs h.1, (xs, (omega (arith, h.0), All-tail P x xs h.1), refl))

all_of_size : (k : ℕ) → AllOf (λ (i : ℤ). mag i ≡ k)
all_of_size k =
    all_as (λ (i : ℤ). (pos k ≡ i) ⊎ (negsuc k ≡ i)) (λ (i : ℤ). mag i ≡ k) to from
    (all_either (λ (i : ℤ). pos k ≡ i) (λ (i : ℤ). negsuc k ≡ i)
    (all_one (pos k) (λ (i : ℤ). pos k ≡ i) refl (λ i e. e))
    (all_one (negsuc k) (λ (i : ℤ). negsuc k ≡ i) refl (λ i e. e)))
  where
    to : (i : ℤ) → (pos k ≡ i) ⊎ (negsuc k ≡ i) → mag i ≡ k
    to i (inl e) = subst (λ j. mag j ≡ k) e refl
    to i (inr e) = subst (λ j. mag j ≡ k) e refl

    from : (i : ℤ) → mag i ≡ k → (pos k ≡ i) ⊎ (negsuc k ≡ i)
    from (pos n) e = inl (ap pos (sym e))
    from (negsuc n) e = inr (ap negsuc (sym e))

all_ints : (n : ℕ) → AllOf (λ (i : ℤ). mag i < n)
all_ints n =
    all_as (λ (i : ℤ). (k : ℕ) × (k < n) × (mag i ≡ k)) (λ (i : ℤ). mag i < n)
    (λ i h. subst (λ k. k < n) (sym h.2) h.1) (λ i h. (mag i, h, refl))
    (all_from (λ k. k < n) (λ (k : ℕ) (i : ℤ). mag i ≡ k) (all_below n) all_of_size)

-- ---- data and terms

abbrev IsShortText : ℕ → Name → Type 0
IsShortText n s = (length s ≤ n) × IsBytes s

-- an Int of 64 bits, or a text of at most n bytes
abbrev pub IsShort : ℕ → Datum → Type 0
IsShort n (Int i) = mag i < 2 ^ 63
IsShort n (Text s) = IsShortText n s
IsShort n (Url s) = IsShortText n s
IsShort n (File s) = IsShortText n s
IsShort n (Node s) = IsShortText n s

abbrev IsOf : Name → Datum → Type 0
IsOf s d = (Text s ≡ d) ⊎ ((Url s ≡ d) ⊎ ((File s ≡ d) ⊎ (Node s ≡ d)))

abbrev ShortBy : ℕ → Datum → Type 0
ShortBy n d = ((i : ℤ) × (mag i < 2 ^ 63) × (Int i ≡ d)) ⊎ ((s : Name) × IsShortText n s × IsOf s d)

all_of_text : (s : Name) → AllOf (IsOf s)
all_of_text s =
    all_either (λ (d : Datum). Text s ≡ d) (λ (d : Datum). (Url s ≡ d) ⊎ ((File s ≡ d) ⊎ (Node s ≡ d)))
    (all_one (Text s) (λ (d : Datum). Text s ≡ d) refl (λ d e. e))
    (all_either (λ (d : Datum). Url s ≡ d) (λ (d : Datum). (File s ≡ d) ⊎ (Node s ≡ d))
    (all_one (Url s) (λ (d : Datum). Url s ≡ d) refl (λ d e. e))
    (all_either (λ (d : Datum). File s ≡ d) (λ (d : Datum). Node s ≡ d)
    (all_one (File s) (λ (d : Datum). File s ≡ d) refl (λ d e. e))
    (all_one (Node s) (λ (d : Datum). Node s ≡ d) refl (λ d e. e))))

all_short : (n : ℕ) → AllOf (IsShort n)
all_short n =
    all_as (ShortBy n) (IsShort n) to from
    (all_either (λ (d : Datum). (i : ℤ) × (mag i < 2 ^ 63) × (Int i ≡ d))
    (λ (d : Datum). (s : Name) × IsShortText n s × IsOf s d)
    (all_from (λ (i : ℤ). mag i < 2 ^ 63) (λ (i : ℤ) (d : Datum). Int i ≡ d) (all_ints (2 ^ 63))
    (λ i. all_one (Int i) (λ (d : Datum). Int i ≡ d) refl (λ d e. e)))
    (all_from (IsShortText n) IsOf (all_lists (λ b. b < 256) (all_below 256) n) all_of_text))
  where
    to : (d : Datum) → ShortBy n d → IsShort n d
    to d (inl h) = subst (IsShort n) h.2 h.1
    to d (inr h) =
        elim h.2 [
          | inl e ↦ subst (IsShort n) e h.1
          | inr more ↦ elim more [
            | inl e ↦ subst (IsShort n) e h.1
            | inr more ↦ elim more [ inl e ↦ subst (IsShort n) e h.1 | inr e ↦ subst (IsShort n) e h.1 ]
          ]
        ]

    from : (d : Datum) → IsShort n d → ShortBy n d
    from (Int i) h = inl (i, h, refl)
    from (Text s) h = inr (s, h, inl refl)
    from (Url s) h = inr (s, h, inr (inl refl))
    from (File s) h = inr (s, h, inr (inr (inl refl)))
    from (Node s) h = inr (s, h, inr (inr (inr refl)))

module _ (path : List ℕ) where
  abbrev FitsName : Name → Type 0
  FitsName name = (length name ≤ length path) × All (Contains path) name

  abbrev FitsArgs : List Datum → Type 0
  FitsArgs args = (length args ≤ length path) × All (IsShort (length path)) args

  -- its name is of bytes of the path, and it has no more arguments than the path has bytes, each as short
  abbrev pub Fits : Term → Type 0
  Fits t = FitsName t.function × FitsArgs t.args

  pub all_fitting : AllOf Fits
  all_fitting =
      all_as
      (λ (t : Term). (name : Name) × FitsName name
      × ((args : List Datum) × FitsArgs args × (record { function = name; args = args } ≡ t))) Fits
      (λ t h. subst Fits h.2.2 (h.1, h.2.1)) (λ t h. (t.function, h.0, (t.args, h.1, refl)))
      (all_from FitsName
      (λ (name : Name) (t : Term). (args : List Datum) × FitsArgs args × (record { function = name; args = args } ≡ t))
      (all_lists (Contains path) (all_in path) (length path))
      (λ name. all_from FitsArgs (λ (args : List Datum) (t : Term). record { function = name; args = args } ≡ t)
      (all_lists (IsShort (length path)) (all_short (length path)) (length path))
      (λ args. all_one (record { function = name; args = args })
      (λ (t : Term). record { function = name; args = args } ≡ t) refl (λ t e. e))))
