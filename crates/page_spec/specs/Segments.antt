-- Segments of a path: the stretches between its slashes.
use Rattle.std.specs.Prelude.{◌≡◌, ℕ, ◌<◌, List, ◌++◌, length, All}
use Rattle.page_spec.specs.declared.TheConstants.{NAME_LIMIT}

-- no slash is among the bytes
abbrev pub HasNoSlash : List ℕ → Type 0
HasNoSlash = All (λ b. b ≡ 47 → ⊥)

-- more bytes than a file's name may have are in a row without a slash
abbrev pub HasLongSegment : List ℕ → Type 0
HasLongSegment path =
    (before segment after : List ℕ) × (path ≡ before ++ segment ++ after) × HasNoSlash segment
    × (NAME_LIMIT < length segment)
