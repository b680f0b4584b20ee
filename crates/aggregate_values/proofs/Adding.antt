-- Sums of numbers, one after another.
use Rattle.std.proofs.Common.{◌≡◌, ◌∙◌, ℕ, ◌+◌, ◌<◌, ◌≤◌, List, [], ◌∷◌, ◌++◌, length, get_or, take, arith, ap, sym, refl, subst, ltb-true}
use Rattle.std.specs.Prelude.{◌≢◌, ◌↔◌, ℤ, pos, negsuc, ◌+ℤ◌, Bool, true, false, IsTrue, Option, Some, None}
use Rattle.std.specs.Option.{MatchOption}
use Rattle.std.specs.List.{flat_map}
use Rattle.std.proofs.lemmas.Grind.{flat_map-append}
use Rattle.std.proofs.lemmas.Int.{ints}
use Rattle.std.proofs.lemmas.List.{take_more, take_all, append-nil}
use Rattle.sd_value.specs.declared.Value.{Value}
use Rattle.std.proofs.Math.Facts.{sfits_lit}
use Rattle.std.specs.Int.{w64}
use Rattle.std.specs.Int.RustNames.{FitsSigned}
use Rattle.std.specs.Option.{SomeIff}
use Rattle.site_spec.specs.Site.{pair_number, total, IsWord}
use Rattle.aggregate_values.specs.Sums.{HasSum, sum_of}

-- the numbers of the first of the pairs
abbrev pub numbers_to : List Value → ℕ → List ℤ
numbers_to parts i = flat_map pair_number (take i parts)

pub numbers_next : (parts : List Value) (i : ℕ) (part : Value) → i < length parts → part ≡ get_or parts i part → numbers_to parts (i + 1) ≡ numbers_to parts i ++ pair_number part
numbers_next parts i part l is =
    ap (flat_map pair_number) (take_more parts i part l ∙ ap (λ x. take i parts ++ x ∷ []) (sym is))
    ∙ flat_map-append pair_number (take i parts) (part ∷ []) ∙ ap (λ ns. numbers_to parts i ++ ns) (append-nil (pair_number part))

pub total_next : (ns : List ℤ) (n : ℤ) → total (ns ++ n ∷ []) ≡ total ns +ℤ n
total_next [] n = omega (arith, ints)
total_next (m ∷ ns) n = let rest = total_next ns n in omega (arith, ints, rest)

-- what the loop keeps of the first of the pairs
pub record Kept (parts : List Value) (i : ℕ) (sum : ℤ) (found : Bool) : Type 0 where
  pub is : sum ≡ total (numbers_to parts i)
  pub some : IsTrue found ↔ numbers_to parts i ≢ []

pub kept_some : (parts : List Value) (i : ℕ) (part : Value) (sum n : ℤ) (found : Bool) (o : Option ℤ) → i < length parts → part ≡ get_or parts i part → o ≡ Some n
    → MatchOption o (pair_number part ≡ []) (λ m. pair_number part ≡ m ∷ []) → Kept parts i sum found → Kept parts (i + 1) (sum +ℤ n) true
kept_some parts i part sum n found o l is e m kept =
    let one : pair_number part ≡ n ∷ [] = subst (λ (x : Option ℤ). MatchOption x (pair_number part ≡ []) (λ k. pair_number part ≡ k ∷ [])) e m in
    let next : numbers_to parts (i + 1) ≡ numbers_to parts i ++ n ∷ [] = numbers_next parts i part l is ∙ ap (λ ns. numbers_to parts i ++ ns) one in
    record {
      is = ap (λ s. s +ℤ n) kept.is ∙ sym (total_next (numbers_to parts i) n) ∙ ap total (sym next);
      some = (λ t none. not_nil (numbers_to parts i) n (sym next ∙ none), λ some. refl);
    }
  where
    not_nil : (ns : List ℤ) (n : ℤ) → ns ++ n ∷ [] ≡ [] → ⊥
    not_nil [] n e = cc
    not_nil (m ∷ ns) n e = cc

pub kept_none : (parts : List Value) (i : ℕ) (part : Value) (sum : ℤ) (found : Bool) (o : Option ℤ) → i < length parts → part ≡ get_or parts i part → o ≡ None
    → MatchOption o (pair_number part ≡ []) (λ m. pair_number part ≡ m ∷ []) → Kept parts i sum found → Kept parts (i + 1) sum found
kept_none parts i part sum found o l is e m kept =
    let none : pair_number part ≡ [] = subst (λ (x : Option ℤ). MatchOption x (pair_number part ≡ []) (λ k. pair_number part ≡ k ∷ [])) e m in
    let next : numbers_to parts (i + 1) ≡ numbers_to parts i = numbers_next parts i part l is ∙ ap (λ ns. numbers_to parts i ++ ns) none ∙ append-nil (numbers_to parts i) in
    record {
      is = kept.is ∙ ap total (sym next);
      some = (λ t e. kept.some.0 t (sym next ∙ e), λ n. kept.some.1 (λ e. n (next ∙ e)));
    }

pub kept_as : (parts : List Value) (i : ℕ) (a b : ℤ) (f g : Bool) → a ≡ b → f ≡ g → Kept parts i b g → Kept parts i a f
kept_as parts i a b f g e d kept = record { is = e ∙ kept.is; some = (λ t. kept.some.0 (sym d ∙ t), λ n. d ∙ kept.some.1 n) }

pub kept_all : (parts : List Value) (i : ℕ) (sum : ℤ) (found : Bool) → length parts ≤ i → Kept parts i sum found → (sum ≡ total (flat_map pair_number parts)) × (IsTrue found ↔ flat_map pair_number parts ≢ [])
kept_all parts i sum found l kept = subst (λ (ps : List Value). (sum ≡ total (flat_map pair_number ps)) × (IsTrue found ↔ flat_map pair_number ps ≢ [])) (take_all i parts l) (kept.is, kept.some)

-- ---- numbers of 64 bits

pub word_fits : (n : ℤ) → IsWord n → FitsSigned w64 n
word_fits n h = omega (arith, ints, h.low, h.high)

pub fits_word : (n : ℤ) → FitsSigned w64 n → IsWord n
fits_word n h = record { low = omega (arith, ints, h); high = omega (arith, ints, h) }

none_found : (b : Bool) → b ≡ false → IsTrue b → ⊥
none_found b e t = cc

module _ (parts : List Value) (i : ℕ) (sum : ℤ) (found : Bool) (past : length parts ≤ i) (kept : Kept parts i sum found) where
  pub no_sum_found : found ≡ false → (HasSum parts → ⊥)
  no_sum_found e h = none_found found e ((kept_all parts i sum found past kept).1.1 h.0)

  pub sum_found : (o : Option ℤ) → found ≡ true → SomeIff o (FitsSigned w64 sum) sum → SomeIff o (HasSum parts) (sum_of parts)
  sum_found None e h = λ s. h (subst (FitsSigned w64) (sym all.0) (word_fits (sum_of parts) s.1))
    where
      all : (sum ≡ total (flat_map pair_number parts)) × (IsTrue found ↔ flat_map pair_number parts ≢ [])
      all = kept_all parts i sum found past kept
  sum_found (Some n) e h = ((all.1.0 e, subst IsWord all.0 (fits_word sum h.0)), h.1 ∙ all.0)
    where
      all : (sum ≡ total (flat_map pair_number parts)) × (IsTrue found ↔ flat_map pair_number parts ≢ [])
      all = kept_all parts i sum found past kept
