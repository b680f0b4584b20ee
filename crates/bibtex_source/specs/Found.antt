-- Entries that were found, and those that are still to be read.
use Rattle.std.specs.Prelude.{List, Option, Some, None}
use Rattle.bibtex_spec.specs.declared.Field.{Field}

-- what was found, or else what comes later
abbrev pub or_later : Option (List Field) → Option (List Field) → Option (List Field)
or_later (Some fields) later = Some fields
or_later None later = later
