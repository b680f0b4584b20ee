-- A reader of records over bytes in memory.
use Rattle.std.specs.Prelude.{◌≡◌, ◌<◌, ℕ, true, List, [], ◌∷◌, length, Option, Some, None}
use Rattle.std.specs.Borrow.{Bor}
use Rattle.csv.specs.Reading.{source_of, Ready}
use Rattle.csv.specs.declared.reader.Reader.{Reader}
use Rattle.csv.specs.declared.reader.Trim.TheVariants as trim
use Rattle.csv_source.specs.Separators.{separated}
use Rattle.csv_source.specs.Records.{records_after, IsBetween}

abbrev pub or_none : Option (List ℕ) → List ℕ
or_none (Some xs) = xs
or_none None = []

-- the bytes, and the records, that a reader has yet to give
abbrev pub bytes_left : Reader (Bor (List ℕ)) → List ℕ
bytes_left r = or_none (source_of (λ s. Some s.now) r)

abbrev pub records_left : Reader (Bor (List ℕ)) → List (List (List ℕ))
records_left r = records_after r.config.delimiter r.state (bytes_left r)

-- a reader that is between two records of a text, and gives every record as it is
pub record IsOpen (r : Reader (Bor (List ℕ))) : Type 0 where
  pub config : r.config ≡ separated r.config.delimiter
  pub trim : r.trim ≡ trim.None
  pub flexible : r.flexible ≡ true
  pub ready : Ready r
  pub between : IsBetween r.state
  pub known : (xs : List ℕ) × (source_of (λ s. Some s.now) r ≡ Some xs)

-- what a reader gives next
abbrev pub GivesFields : Reader (Bor (List ℕ)) → Reader (Bor (List ℕ)) → Option (List (List ℕ))
    → Type 0
GivesFields a b None = records_left a ≡ []
GivesFields a b (Some fields) =
    (records_left a ≡ fields ∷ records_left b) × IsOpen b
    × (length (bytes_left b) < length (bytes_left a))
