-- Whether a page has a file: the segments of its path, the stretches between slashes.
use Rattle.std.specs.Prelude.{◌≡◌, ℕ, List, [], ◌∷◌, Result, Ok, Err}
use Rattle.address.specs.declared.places.FileRefusal.{FileRefusal}
use Rattle.address.specs.declared.places.FileRefusal.TheVariants.{LongName, NoMemory}
pub use Rattle.page_spec.specs.Segments.{HasNoSlash, HasLongSegment}

-- nothing, or a slash first
abbrev pub IsEndOrSlash : List ℕ → Type 0
IsEndOrSlash [] = Unit {0}
IsEndOrSlash (b ∷ bs) = b ≡ 47

-- the answer for a file's path
abbrev pub FileEnds : {T : Type 0} → List ℕ → Result T FileRefusal → Type 0
FileEnds path (Ok x) = HasLongSegment path → ⊥
FileEnds path (Err LongName) = HasLongSegment path
FileEnds path (Err NoMemory) = Unit {0}
