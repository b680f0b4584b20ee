-- What a query picks from a list: what it gives of each item that lies in its place.
use Rattle.std.specs.Prelude.{◌≡◌, ◌≤◌, ◌||◌, ◌&&◌, ℕ, Bool, true, false, List, map, length, Contains}
use Rattle.std.specs.declared.cmp.Ordering.{Ordering}
use Rattle.std.specs.declared.cmp.Ordering.TheVariants.{Equal}
use Rattle.std.specs.Ordering.{is_eq, is_lt, ordering_index}
use Rattle.std.specs.List.{filter, AllWithin}
use Rattle.std.specs.List.Sorted.{IsNonDecreasingBy}

-- the items that are neither below nor above the query's place
abbrev pub in_place : {X : Type 0} → (X → Ordering) → List X → List X
in_place place xs = filter (λ x. is_eq (place x)) xs

-- what is given of the items in their place
abbrev pub picked : {X Y : Type 0} → (X → Ordering) → (X → Y) → List X → List Y
picked place gives xs = map gives (in_place place xs)

-- first the items below the query's place, then those in it, then those above
abbrev pub IsPlaced : {X : Type 0} → (X → Ordering) → List X → Type 0
IsPlaced place xs = IsNonDecreasingBy (λ x. ordering_index (place x)) xs

-- whether an item is below the query's place, or also in it
abbrev pub passes : Bool → Ordering → Bool
passes through order = is_lt order || (through && is_eq order)

-- the items up to n pass, and no other one
pub record EndsAt {X : Type 0} (test : X → Bool) (xs : List X) (n : ℕ) : Type 0 where
  pub fits : n ≤ length xs
  pub before : AllWithin (λ x. test x ≡ true) xs 0 n
  pub after : AllWithin (λ x. test x ≡ false) xs n (length xs)

-- from n on no item passes
pub record EndsBy {X : Type 0} (test : X → Bool) (xs : List X) (n : ℕ) : Type 0 where
  pub fits : n ≤ length xs
  pub after : AllWithin (λ x. test x ≡ false) xs n (length xs)

-- an item lies in the place
abbrev pub HasOne : {X : Type 0} → (X → Ordering) → List X → Type 0
HasOne {X} place xs = (x : X) × Contains xs x × (place x ≡ Equal)
