-- How looking for the path of a page ends.
use Rattle.std.specs.Prelude.{◌≡◌, ℕ, List, Result, Ok, Err}
use Rattle.sd_value.specs.declared.Term.{Term}
use Rattle.address.specs.Segments.{HasLongSegment}
use Rattle.run_report.specs.declared.status.PageKind.TheVariants.{LongName}
use Rattle.files_spec.specs.Paths.{file_name, page_path}
use Rattle.files_spec.specs.declared.stop.Stop.{Stop}
use Rattle.files_spec.specs.declared.stop.Stop.TheVariants.{Faulty, Unwritten, NoMemory}

-- the page has no file, or it was out of memory
abbrev pub IsNameless : Term → Stop → Type 0
IsNameless t (Faulty term kind) = (term ≡ t) × (kind ≡ LongName) × HasLongSegment (file_name t)
IsNameless t (Unwritten path) = ⊥
IsNameless t NoMemory = Unit {0}

-- How looking for a page's path ends: with the path, or because a name on the way would be too long.
abbrev pub PathEnds : List ℕ → Term → Result (List ℕ) Stop → Type 0
PathEnds folder t (Ok path) = (path ≡ page_path folder t) × (HasLongSegment (file_name t) → ⊥)
PathEnds folder t (Err stop) = IsNameless t stop
