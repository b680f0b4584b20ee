-- How putting one text at a page's path ends.
use Rattle.std.specs.Prelude.{◌≡◌, ℕ, List, Result, Ok, Err, ⊤}
use Rattle.sd_value.specs.declared.Term.{Term}
use Rattle.address.specs.Segments.{HasLongSegment}
use Rattle.edge_io.specs.Files.{FileMap, put_file, ChangesOnly}
use Rattle.run_report.specs.declared.status.PageKind.TheVariants.{LongName}
use Rattle.files_spec.specs.declared.stop.Stop.{Stop}
use Rattle.files_spec.specs.declared.stop.Stop.TheVariants.{Faulty, Unwritten, NoMemory}
use Rattle.files_spec.specs.Paths.{file_name, page_path}

-- the text was put at the path of the term's page, or the page has no file, or that write failed
abbrev pub PutEnds : List ℕ → Term → List ℕ → FileMap → FileMap → Result ⊤ Stop → Type 0
PutEnds folder t text old new (Ok u) =
    (HasLongSegment (file_name t) → ⊥) × (new ≡ put_file old (page_path folder t) text)
PutEnds folder t text old new (Err (Faulty term kind)) =
    (term ≡ t) × (kind ≡ LongName) × HasLongSegment (file_name t) × (new ≡ old)
PutEnds folder t text old new (Err (Unwritten path)) =
    (HasLongSegment (file_name t) → ⊥) × (path ≡ page_path folder t) × ChangesOnly old new path
PutEnds folder t text old new (Err NoMemory) = new ≡ old
