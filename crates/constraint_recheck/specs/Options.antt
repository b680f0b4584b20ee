-- Answers that may be missing, over lists.
use Rattle.std.specs.Prelude.{ℕ, ◌+◌, List, [], ◌∷◌, Option, Some, None, option_map, option_and_then}

-- the answer has P, and is missing only where nothing has
abbrev pub Finds : {X : Type 0} → (X → Type 0) → Option X → Type 0
Finds {X} P None = (x : X) → P x → ⊥
Finds P (Some x) = P x

-- the first answer, and else the other
abbrev pub or_else : {X : Type 0} → Option X → Option X → Option X
or_else None other = other
or_else (Some x) other = Some x

-- the first answer of the function over the items
abbrev pub first_of : {X Y : Type 0} → (X → Option Y) → List X → Option Y
first_of f [] = None
first_of f (x ∷ xs) = or_else (f x) (first_of f xs)

-- the answers of the function over all items, if none is missing
abbrev pub for_each : {X Y : Type 0} → (X → Option Y) → List X → Option (List Y)
for_each f [] = Some []
for_each f (x ∷ xs) = option_and_then (λ y. option_map (λ ys. y ∷ ys) (for_each f xs)) (f x)

-- the function over the items, one after another
abbrev pub fold_over : {X Y : Type 0} → (Y → X → Y) → Y → List X → Y
fold_over g y [] = y
fold_over g y (x ∷ xs) = fold_over g (g y x) xs

-- ---- how much is tried

-- the number, if there is no answer
abbrev pub if_none : {X : Type 0} → Option X → ℕ → ℕ
if_none None n = n
if_none (Some x) n = 0

-- how much is tried on the items up to the first that has an answer of the function
abbrev pub tried_until : {X Y : Type 0} → (X → Option Y) → (X → ℕ) → List X → ℕ
tried_until f tried [] = 0
tried_until f tried (x ∷ xs) = tried x + if_none (f x) (tried_until f tried xs)

-- how much is tried as the function goes over the items
abbrev pub tried_over : {X Y : Type 0} → (Y → X → Y) → (Y → X → ℕ) → Y → List X → ℕ
tried_over g tried y [] = 0
tried_over g tried y (x ∷ xs) = tried y x + tried_over g tried (g y x) xs
