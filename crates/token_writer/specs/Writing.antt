-- How tokens are written back.
use Rattle.std.specs.Prelude.{ℕ, List, [], ◌∷◌, ◌++◌, nat_eq, if◌then◌else◌}
use Rattle.std.specs.List.{flat_map}

-- a byte between quotes: `"`, `\`, line feed, carriage return and tab are escaped
abbrev pub escaped_byte : ℕ → List ℕ
escaped_byte b =
    if nat_eq b 34 then 92 ∷ 34 ∷ []
    else (if nat_eq b 92 then 92 ∷ 92 ∷ []
    else (if nat_eq b 10 then 92 ∷ 110 ∷ []
    else (if nat_eq b 13 then 92 ∷ 114 ∷ []
    else (if nat_eq b 9 then 92 ∷ 116 ∷ []
    else b ∷ []))))

abbrev pub quoted_text : List ℕ → List ℕ
quoted_text text = 34 ∷ (flat_map escaped_byte text ++ 34 ∷ [])
