-- What was written to a file, as lines.
use Rattle.std.specs.Prelude.{ℕ, List, [], ◌∷◌}
use Rattle.std.specs.List.{flat_map}
use Rattle.happenings.specs.Happening.{Happening, Wrote}

-- the bytes of one write that did not fail
abbrev pub line_written : Happening → List (List ℕ)
line_written (Wrote path bytes) = bytes ∷ []
line_written happening = []

-- those of all writes
abbrev pub lines_written : List Happening → List (List ℕ)
lines_written trace = flat_map line_written trace
