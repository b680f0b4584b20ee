-- The one value of a function, if it has one.
use Rattle.std.specs.Prelude.{◌≡◌, ◌++◌, List, Option, MatchOption}
use Rattle.std.specs.Option.{option_to_list}
use Rattle.sd_value.specs.declared.Value.{Value}

-- o is the only value with P, or there is none
abbrev pub Tells : (Value → Type 0) → Option Value → Type 0
Tells P o = MatchOption o ((v : Value) → P v → ⊥) (λ w. P w × ((v : Value) → P v → v ≡ w))

-- the values with the only one that has P, if there is one, after them
abbrev pub Adds : (Value → Type 0) → List Value → List Value → Type 0
Adds P old new = (o : Option Value) × Tells P o × (new ≡ old ++ option_to_list o)
