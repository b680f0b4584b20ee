-- Items by numbers: the places of a list in the order of its items, and the ranks of items.
use Rattle.std.specs.Prelude.{◌≡◌, ◌<◌, ℕ, ◌+◌, ◌*◌, List, map, length, slice_index, slice_index_or, All, Contains}
use Rattle.std.specs.Borrow.{Bor}
use Rattle.std.specs.declared.cmp.Ordering.{Ordering}
use Rattle.std.specs.declared.cmp.Ordering.TheVariants.{Less, Equal}
use Rattle.std.specs.Ordering.{on, then_cmp, ordering_then, nat_cmp}
use Rattle.std.specs.Cmp.{IsTotalOrder}
use Rattle.std.specs.List.Sorted.{IsStrictlySortedBy}
use Rattle.std.proofs.lemmas.Cmp.{on_total, then_total, nat_cmp_total}
use Rattle.index_store.specs.declared.ranks.Keyed.{Keyed}

-- what references point to
abbrev pub targets : {X : Type 0} → List (Bor X) → List X
targets rs = map (λ r. r.now) rs

-- the item at a place. No place here is past the end, where d stands
abbrev pub item_at : {X : Type 0} → List X → X → ℕ → X
item_at xs d i = slice_index_or xs i d

-- two places, by the items there and then by the places
abbrev pub turn_cmp : {X : Type 0} → (X → X → Ordering) → List X → X → ℕ → ℕ → Ordering
turn_cmp R xs d i j = ordering_then (R (item_at xs d i) (item_at xs d j)) (nat_cmp i j)

-- two places of a list of numbers
abbrev pub rank_cmp : List ℕ → ℕ → ℕ → Ordering
rank_cmp ranks = turn_cmp nat_cmp ranks 0

-- an item with its place, in the same order
abbrev pub keyed_cmp : {X : Type 0} → (X → X → Ordering) → Keyed X → Keyed X → Ordering
keyed_cmp R = then_cmp (on (λ k. k.key.now) R) (on (λ k. k.place) nat_cmp)

-- this order is total
pub keyed_cmp-total : {X : Type 0} {R : X → X → Ordering} → IsTotalOrder R
    → IsTotalOrder (keyed_cmp R)
keyed_cmp-total total =
    then_total (on_total (λ k. k.key.now) total) (on_total (λ k. k.place) nat_cmp_total)

-- the places, in the order of the items there
pub record IsInOrder {X : Type 0} (R : X → X → Ordering) (xs : List X) (places order : List ℕ)
    : Type 0 where
  pub sound : (i : ℕ) → Contains order i → Contains places i
  pub complete : (i : ℕ) → Contains places i → Contains order i
  pub ascending : (d : X) → IsStrictlySortedBy (turn_cmp R xs d) order

-- strictly ascending, and for each of the old items one of them that ties with it
pub record IsMerged {X : Type 0} (R : X → X → Ordering) (old new : List X) : Type 0 where
  pub ascending : IsStrictlySortedBy R new
  pub sound : (x : X) → Contains new x → Contains old x
  pub complete : (x : X) → Contains old x → (y : X) × Contains new y × (R x y ≡ Equal)

-- a place of each distinct item, and for each item the place of its equal among these
pub record AreFirsts {X : Type 0} (xs : List X) (firsts originals : List ℕ) : Type 0 where
  pub fits : All (λ i. i < length xs) firsts
  pub apart : (i j : ℕ) (d : X) → Contains firsts i → Contains firsts j
      → item_at xs d i ≡ item_at xs d j → i ≡ j
  pub counted : length originals ≡ length xs
  pub known : (i : ℕ) → i < length xs → Contains firsts (slice_index originals i)
  pub equal : (i : ℕ) (d : X) → i < length xs
      → item_at xs d (slice_index originals i) ≡ item_at xs d i

-- a place of each distinct item, in the items' order, and for each item where its equal is among these
pub record AreRanks {X : Type 0} (R : X → X → Ordering) (xs : List X) (firsts ranks : List ℕ)
    : Type 0 where
  pub fits : All (λ i. i < length xs) firsts
  pub ascending : (a b : ℕ) (d : X) → a < b → b < length firsts
      → R (item_at xs d (slice_index firsts a)) (item_at xs d (slice_index firsts b)) ≡ Less
  pub counted : length ranks ≡ length xs
  pub below : (i : ℕ) → i < length xs → slice_index ranks i < length firsts
  pub equal : (i : ℕ) (d : X) → i < length xs
      → item_at xs d (slice_index firsts (slice_index ranks i)) ≡ item_at xs d i

-- no two of these are equal
abbrev pub AreApart : {X : Type 0} → List X → Type 0
AreApart {X} xs =
    (a b : ℕ) (d : X) → a < b → b < length xs → item_at xs d a ≡ item_at xs d b → ⊥

-- numbers that are ordered as the items are
pub record AreOrderedAs {X : Type 0} (R : X → X → Ordering) (xs : List X) (ranks : List ℕ)
    : Type 0 where
  pub counted : length ranks ≡ length xs
  pub less : (i j : ℕ) (d : X) → i < length xs → j < length xs
      → nat_cmp (slice_index ranks i) (slice_index ranks j) ≡ Less
      → R (item_at xs d i) (item_at xs d j) ≡ Less
  pub same : (i j : ℕ) (d : X) → i < length xs → j < length xs
      → nat_cmp (slice_index ranks i) (slice_index ranks j) ≡ Equal
      → item_at xs d i ≡ item_at xs d j

-- the items at these places, each with its place, and nothing else
pub record AreKeyed {X : Type 0} (xs : List X) (places : List ℕ) (ks : List (Keyed X)) : Type 0 where
  pub sound : (k : Keyed X) → Contains ks k → Contains places k.place
      × ((d : X) → k.key.now ≡ item_at xs d k.place)
  pub complete : (i : ℕ) → Contains places i → (k : Keyed X) × Contains ks k × (k.place ≡ i)

-- the rank at a place and behind it the place, as one number
abbrev pub joined_at : List ℕ → ℕ → ℕ
joined_at ranks i = slice_index ranks i * 4294967296 + i

-- these of the first n places of a list, and nothing else
pub record AreJoined (ranks : List ℕ) (n : ℕ) (js : List ℕ) : Type 0 where
  pub sound : (j : ℕ) → Contains js j → (i : ℕ) × (i < n) × (j ≡ joined_at ranks i)
  pub complete : (i : ℕ) → i < n → Contains js (joined_at ranks i)
