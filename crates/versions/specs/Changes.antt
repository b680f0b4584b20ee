-- What a change reports of the pages that are kept.
use Rattle.std.specs.Prelude.{◌≡◌, Bool, List, map}
use Rattle.sd_value.specs.declared.Term.{Term}
use Rattle.versions.specs.declared.Changed.{Changed}
use Rattle.versions.specs.declared.Changed.TheVariants.{Taken, Refused}

-- one truth value for each term, where the text was taken
abbrev pub TellsEach : (Term → Bool) → List Term → Changed → Type 0
TellsEach stays kept (Taken same) = same.flags.items ≡ map stays kept
TellsEach stays kept Refused = Unit {0}
