-- What a search takes from its budget.
use Rattle.std.specs.Prelude.{◌≡◌, ℕ, ◌+◌, ◌<◌, Option, None, Result, Ok, Err, ⊤}
use Rattle.certificate_search.specs.declared.budget.SearchStop.{SearchStop}
use Rattle.certificate_search.specs.declared.budget.SearchStop.TheVariants.{TooLong, NoMemory}

-- Less was left than what is to be tried. Out of memory comes at any time.
abbrev pub FallsShort : (tried old : ℕ) → SearchStop → Type 0
FallsShort tried old TooLong = old < tried
FallsShort tried old NoMemory = ⊤

-- what is tried is taken from what was left, or that was less
abbrev pub Spends : {X : Type 0} → (tried old new : ℕ) → Result X SearchStop → Type 0
Spends tried old new (Ok x) = old ≡ tried + new
Spends tried old new (Err stop) = FallsShort tried old stop

-- the answer, and none if the search was too long
abbrev pub IsUnlessTooLong : {X : Type 0} → Result (Option X) SearchStop → Option X → Type 0
IsUnlessTooLong (Ok found) answer = answer ≡ found
IsUnlessTooLong (Err TooLong) answer = answer ≡ None
IsUnlessTooLong (Err NoMemory) answer = ⊥
