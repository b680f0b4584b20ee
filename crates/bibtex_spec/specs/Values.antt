-- The text of a value, and the texts that a field gives.
use Rattle.std.specs.Prelude.{◌+◌, ◌-◌, ◌==◌, ◌||◌, ◌&&◌, ℕ, zero, suc, Bool, true, false, List, [], ◌∷◌, ◌++◌, codes}
use Rattle.std.specs.Prelude.{nat_eq, nat_le, length, map, if◌then◌else◌}
use Rattle.std.specs.Str.{bytes_eq}
use Rattle.bibtex_spec.specs.Bytes.{is_blank, behind}

-- a byte, with a space before it if one is owed
abbrev pub spaced_byte : Bool → ℕ → List ℕ
spaced_byte owed b = if owed then 32 ∷ b ∷ [] else b ∷ []

-- Behind a byte that is no blank, a run of blanks owes a space to the next such byte.
abbrev pub tidy_from : Bool → List ℕ → List ℕ
tidy_from owed [] = []
tidy_from owed (b ∷ bytes) =
    if is_blank b then tidy_from true bytes else spaced_byte owed b ++ tidy_from false bytes

-- each run of blanks becomes one space, and blanks at both ends are dropped
abbrev pub tidy : List ℕ → List ℕ
tidy bytes = tidy_from false (behind is_blank bytes)

-- whether a macro's text may stand behind what a value has before it: together they have at most 1,048,576 bytes
unfoldable pub has_room : List ℕ → List ℕ → Bool
has_room before text = nat_le (length before + length text) 1048576

-- ` and `
abbrev pub begins_and : List ℕ → Bool
begins_and (a ∷ b ∷ c ∷ d ∷ e ∷ bytes) =
    nat_eq a 32 && nat_eq b 97 && nat_eq c 110 && nat_eq d 100 && nat_eq e 32
begins_and bytes = false

-- how many braces are open behind a byte
abbrev pub depth_behind : ℕ → ℕ → ℕ
depth_behind depth b =
    if nat_eq b 123 then depth + 1 else if nat_eq b 125 then depth - 1 else depth

-- a byte more at the front of the first part
abbrev pub grow : ℕ → List (List ℕ) → List (List ℕ)
grow b [] = (b ∷ []) ∷ []
grow b (part ∷ parts) = (b ∷ part) ∷ parts

-- The parts between each ` and ` outside braces. Its last space is the next part's: two may share one. `passed` bytes
-- are still those of an ` and `, and `depth` braces are open.
abbrev pub parts_from : ℕ → ℕ → List ℕ → List (List ℕ)
parts_from passed depth [] = [] ∷ []
parts_from (suc passed) depth (b ∷ bytes) = parts_from passed depth bytes
parts_from zero depth (b ∷ bytes) =
    if nat_eq depth 0 && begins_and (b ∷ bytes) then [] ∷ parts_from 3 depth bytes
    else grow b (parts_from zero (depth_behind depth b) bytes)

abbrev pub parts : List ℕ → List (List ℕ)
parts text = parts_from 0 0 text

-- whether a field names people
abbrev pub names_people : List ℕ → Bool
names_people name = bytes_eq name (codes "author") || bytes_eq name (codes "editor")

-- the texts that a field gives: of one that names people its parts, each without spaces at its ends
abbrev pub texts_of : List ℕ → List ℕ → List (List ℕ)
texts_of name text = if names_people name then map tidy (parts text) else text ∷ []
