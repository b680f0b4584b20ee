-- Counts that rose over several calls.
use Rattle.std.proofs.Common.{◌≤◌, ℕ, List, arith}
use Rattle.edge_io.specs.Counts.{Rose, NoneFell}

pub fell_not : {a b c : List ℕ → ℕ} → NoneFell a b → NoneFell b c → NoneFell a c
fell_not ab bc path = omega (arith, ab path, bc path)

rose_over : (a b c : ℕ) → a ≤ b → Rose b c → Rose a c
rose_over a b c up rose = omega (arith, up, rose)

pub still_rose : (a b c : List ℕ → ℕ) → NoneFell a b → (path : List ℕ) → Rose (b path) (c path) → Rose (a path) (c path)
still_rose a b c ab path rose = rose_over (a path) (b path) (c path) (ab path) rose
