-- What a target names, as the code answers it.
use Rattle.std.specs.Prelude.{◌≡◌, ℕ, List, Option, Some, None}
use Rattle.std.specs.Borrow.{Bor}

-- the root's name, if there is one
abbrev pub root_name : Option (Bor (List ℕ)) → Option (List ℕ)
root_name None = None
root_name (Some r) = Some r.now

-- the answer is the one term of which P holds, or there is none
abbrev pub IsOnly : {X : Type 0} → (X → Type 0) → Option X → Type 0
IsOnly P None = (x : _) → P x → ⊥
IsOnly P (Some x) = P x

-- the answer is x
abbrev pub IsSame : {X : Type 0} → X → Option X → Type 0
IsSame x None = ⊥
IsSame x (Some y) = y ≡ x
