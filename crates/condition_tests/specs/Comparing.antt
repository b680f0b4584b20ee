-- What tests of comparisons report.
use Rattle.std.specs.Prelude.{◌≡◌, ◌⊎◌, ℤ, pos, negsuc, ◌≤ℤ◌, ◌^◌, ◌-◌, Option, Some}
use Rattle.std.specs.declared.cmp.Ordering.{Ordering}
use Rattle.std.specs.declared.cmp.Ordering.TheVariants.{Less, Equal, Greater}
use Rattle.query_spec.specs.declared.Op.{Op}
use Rattle.query_spec.specs.declared.Op.TheVariants.{Lt, Le, Gt, Ge}

-- a number of 64 bits
abbrev pub IsInRange : ℤ → Type 0
IsInRange n = (negsuc (2 ^ 63 - 1) ≤ℤ n) × (n ≤ℤ pos (2 ^ 63 - 1))

-- whether one of the four orders holds of values that are in this order, if in any
abbrev pub Allows : Op → Option Ordering → Type 0
Allows Lt o = o ≡ Some Less
Allows Le o = (o ≡ Some Less) ⊎ (o ≡ Some Equal)
Allows Gt o = o ≡ Some Greater
Allows Ge o = (o ≡ Some Greater) ⊎ (o ≡ Some Equal)
Allows op o = ⊥
