-- An open connection.
use Rattle.std.specs.Prelude.{ℕ, List}

-- the bytes that came since the last whole head, and how many replies it may still have
pub record Line : Type 0 where
  pub rest : List ℕ
  pub left : ℕ
