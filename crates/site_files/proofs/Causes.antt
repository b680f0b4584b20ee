-- Counts that rose over several calls.
use Rattle.std.proofs.Common.{◌≡◌, ◌<◌, ◌≤◌, ℕ, List, length, get_or, sym, arith}
use Rattle.std.specs.Prelude.{Contains}
use Rattle.edge_io.specs.Counts.{Rose, NoneFell}

pub one_of : {X : Type 0} (xs : List X) (i : ℕ) (x : X) → i < length xs → x ≡ get_or xs i x → Contains xs x
one_of xs i x l is = (i, l, sym is)

pub fell_not : {a b c : List ℕ → ℕ} → NoneFell a b → NoneFell b c → NoneFell a c
fell_not ab bc path = omega (arith, ab path, bc path)

rose_over : (a b c : ℕ) → a ≤ b → Rose b c → Rose a c
rose_over a b c up rose = omega (arith, up, rose)

pub still_rose : (a b c : List ℕ → ℕ) → NoneFell a b → (path : List ℕ) → Rose (b path) (c path) → Rose (a path) (c path)
still_rose a b c ab path rose = rose_over (a path) (b path) (c path) (ab path) rose

rose_before : (a b c : ℕ) → Rose a b → b ≤ c → Rose a c
rose_before a b c rose up = omega (arith, rose, up)
