-- Names with a number, and the mark at a text's start.
use Rattle.std.specs.Prelude.{◌==◌, ◌&&◌, ℕ, List, ◌∷◌, ◌++◌, codes, decimal, if◌then◌else◌}

abbrev pub numbered : List ℕ → ℕ → List ℕ
numbered name k = name ++ codes "_" ++ decimal k

-- one byte order mark is dropped
unfoldable pub without_mark : List ℕ → List ℕ
without_mark (a ∷ b ∷ c ∷ rest) =
    if (a == 239) && (b == 187) && (c == 191) then rest else a ∷ b ∷ c ∷ rest
without_mark bytes = bytes
