-- What came to a set and what went from it.
use Rattle.std.specs.Prelude.{◌≡◌, ◌⊎◌, List, fold, Contains}
use Rattle.std.specs.declared.cmp.Ordering.{Ordering}
use Rattle.std.specs.BTreeMap.{is_at}
use Rattle.std.specs.BTreeSet.{insert_key}
use Rattle.std.specs.Set.{remove_key}

-- something of which is known whether it was there (P), is there (Q), went (D), came (C)
pub record Moves (P Q D C : Type 0) : Type 0 where
  pub stays : P → (D → ⊥) → Q
  pub comes : C → Q
  pub was : D → P
  pub went : D → Q → ⊥
  pub is_new : C → P → ⊥
  pub all : Q → P ⊎ C

-- the same of each element of sets
abbrev pub Shift : {X : Type 0} → (P Q D C : X → Type 0) → Type 0
Shift {X} P Q D C = (x : X) → Moves (P x) (Q x) (D x) (C x)

-- one of these that didn't go, or that came
abbrev pub IsShifted : {X : Type 0} → List X → List X → List X → X → Type 0
IsShifted was gone came x = (Contains was x × (Contains gone x → ⊥)) ⊎ Contains came x

-- the ascending list without those of another
abbrev pub minus : {X : Type 0} → (X → X → Ordering) → List X → List X → List X
minus R xs gone = fold (λ ys d. remove_key (is_at (R d)) ys) xs gone

-- the ascending list with those of another
abbrev pub plus : {X : Type 0} → (X → X → Ordering) → List X → List X → List X
plus R xs came = fold (insert_key R) xs came

-- new has what old has, and f of those of xs with K
pub record Pushed {X Y : Type 0} (f : X → Y) (K : X → Type 0) (xs : List X) (old new : List Y)
    : Type 0 where
  pub kept : (y : Y) → Contains old y → Contains new y
  pub found : (x : X) → Contains xs x → K x → Contains new (f x)
  pub only : (y : Y) → Contains new y
      → Contains old y ⊎ ((x : X) × Contains xs x × K x × (f x ≡ y))
