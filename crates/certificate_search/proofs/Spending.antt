-- What is taken from a budget, step by step.
use Rattle.std.proofs.Common.{◌≡◌, ℕ, ◌+◌, ◌<◌, ◌≤◌, length, List, [], ◌∷◌, ◌++◌, drop, get_or, refl, ap, sym, ◌∙◌, arith}
use Rattle.std.specs.Prelude.{map, if◌then◌else◌, Bool, true, false, nat_le, IfOk, Option, None, option_map, Result, Ok, Err}
use Rattle.std.specs.Bool.{Decides}
use Rattle.std.proofs.lemmas.List.{drop_all}
use Rattle.constraint_recheck.specs.Options.{fold_over, if_none, tried_until, tried_over}
use Rattle.constraint_recheck.specs.Search.{search_budget, within_budget}
use Rattle.constraint_recheck.proofs.Recheck.{le_decides}
use Rattle.certificate_search.specs.Budget.{FallsShort, Spends, IsUnlessTooLong}
use Rattle.certificate_search.specs.declared.budget.SearchStop.{SearchStop}
use Rattle.certificate_search.specs.declared.budget.SearchStop.TheVariants.{TooLong, NoMemory}
use Rattle.certificate_search.proofs.RenamedSteps.{dropped}

-- ---- what is left to try

pub until_one : {X A Y : Type 0} (f : A → Option Y) (t : A → ℕ) (g : X → A) (xs : List X) (i : ℕ) (x : X) → i < length xs → x ≡ get_or xs i x
    → tried_until f t (map g (drop i xs)) ≡ t (g x) + if_none (f (g x)) (tried_until f t (map g (drop (i + 1) xs)))
until_one f t g xs i x lt at = ap (λ zs. tried_until f t (map g zs)) (dropped xs i x lt at)

pub until_end : {X A Y : Type 0} (f : A → Option Y) (t : A → ℕ) (g : X → A) (xs : List X) (i : ℕ) → length xs ≤ i → tried_until f t (map g (drop i xs)) ≡ 0
until_end f t g xs i le = ap (λ zs. tried_until f t (map g zs)) (drop_all i xs le)

pub over_one : {X A Y : Type 0} (h : Y → A → Y) (t : Y → A → ℕ) (y : Y) (g : X → A) (xs : List X) (i : ℕ) (x : X) → i < length xs → x ≡ get_or xs i x
    → tried_over h t y (map g (drop i xs)) ≡ t y (g x) + tried_over h t (h y (g x)) (map g (drop (i + 1) xs))
over_one h t y g xs i x lt at = ap (λ zs. tried_over h t y (map g zs)) (dropped xs i x lt at)

pub over_end : {X A Y : Type 0} (h : Y → A → Y) (t : Y → A → ℕ) (y : Y) (g : X → A) (xs : List X) (i : ℕ) → length xs ≤ i → tried_over h t y (map g (drop i xs)) ≡ 0
over_end h t y g xs i le = ap (λ zs. tried_over h t y (map g zs)) (drop_all i xs le)

pub over_joined : {A Y : Type 0} (h : Y → A → Y) (t : Y → A → ℕ) (y : Y) (xs zs : List A) → tried_over h t y (xs ++ zs) ≡ tried_over h t y xs + tried_over h t (fold_over h y xs) zs
over_joined h t y [] zs = omega arith
over_joined h t y (x ∷ xs) zs = let rest = over_joined h t (h y x) xs zs in omega (arith, rest)

-- ---- a search that stops

-- a step of a loop stops
pub stopped : (old now rest here more total : ℕ) (e : SearchStop) → old + rest ≡ now + total → rest ≡ here + more → FallsShort here now e → FallsShort total old e
stopped old now rest here more total TooLong before is s = omega (arith, before, is, s)
stopped old now rest here more total NoMemory before is s = tt

-- the first of two steps stops, or the second
pub stopped_first : (old first more : ℕ) (e : SearchStop) → FallsShort first old e → FallsShort (first + more) old e
stopped_first old first more TooLong s = omega (arith, s)
stopped_first old first more NoMemory s = tt

pub stopped_then : (old now first here : ℕ) (e : SearchStop) → old ≡ first + now → FallsShort here now e → FallsShort (first + here) old e
stopped_then old now first here TooLong before s = omega (arith, before, s)
stopped_then old now first here NoMemory before s = tt

-- as much is tried as is stated
pub short_as : (one other old : ℕ) (e : SearchStop) → one ≡ other → FallsShort one old e → FallsShort other old e
short_as one other old TooLong is s = omega (arith, is, s)
short_as one other old NoMemory is s = tt

-- ---- the whole budget

pub as_within : {X Y : Type 0} (f : X → Y) (tried new : ℕ) (found : Result (Option X) SearchStop) (answer : Option X) (wanted : Option Y) → IfOk found (λ r. option_map f r ≡ wanted)
    → Spends tried search_budget new found → IsUnlessTooLong found answer → option_map f answer ≡ within_budget tried wanted
as_within {X} {Y} f tried new (Ok r) answer wanted h s is =
    let le : tried ≤ search_budget = omega (arith, s) in
    ap (option_map f) is ∙ h ∙ ap (λ b. if b then wanted else None) (sym ((le_decides tried search_budget).1 le))
as_within {X} {Y} f tried new (Err TooLong) answer wanted h s is = ap (option_map f) is ∙ by_test (nat_le tried search_budget) (le_decides tried search_budget)
  where
    by_test : (b : Bool) → Decides b (tried ≤ search_budget) → None ≡ (if b then wanted else None)
    by_test true d = let le = d.0 refl in absurd (omega (arith, le, s))
    by_test false d = refl
as_within f tried new (Err NoMemory) answer wanted h s is = absurd is
