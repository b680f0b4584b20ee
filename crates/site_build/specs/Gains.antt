-- How a list grows.
use Rattle.std.specs.Prelude.{◌⊎◌, List, Contains}

-- `new` has what `old` has and what has P, and nothing else
pub record Gains {X : Type 0} (P : X → Type 0) (old new : List X) : Type 0 where
  pub to : (x : X) → Contains new x → Contains old x ⊎ P x
  pub kept : (x : X) → Contains old x → Contains new x
  pub gained : (x : X) → P x → Contains new x
