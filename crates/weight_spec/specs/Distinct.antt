-- Lists without repeats.
use Rattle.std.specs.Prelude.{List, [], ◌∷◌, Contains}

-- no two items are the same
abbrev pub IsDistinct : {X : Type 0} → List X → Type 0
IsDistinct [] = Unit {0}
IsDistinct (x ∷ xs) = (Contains xs x → ⊥) × IsDistinct xs
