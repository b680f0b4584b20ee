-- The format that a path reports.
use Rattle.std.specs.Prelude.{◌-◌, ◌==◌, ◌&&◌, ◌||◌, ℕ, Bool, nat_eq, List, [], ◌∷◌, length, drop, take, codes}
use Rattle.std.specs.Prelude.{Option, Some, None, if◌then◌else◌}
use Rattle.std.specs.List.{list_any}
use Rattle.std.specs.Cmp.Lexicographic.{pointwise}
use Rattle.std.specs.Str.{bytes_eq}
use Rattle.data_source.specs.declared.rules.SourceRules.{SourceRules}
use Rattle.data_source.specs.declared.format.Format.{Format}
use Rattle.data_source.specs.declared.format.Format.TheVariants.{DataText, Csv, Json, BibTex, Database, Text}

abbrev pub is_slash : ℕ → Bool
is_slash b = nat_eq b 47

-- what is behind the last slash, or all where there is none
abbrev pub behind_slashes : List ℕ → List ℕ
behind_slashes [] = []
behind_slashes (b ∷ bs) =
    if list_any is_slash bs then behind_slashes bs else if is_slash b then bs else b ∷ bs

abbrev pub ends_with : List ℕ → List ℕ → Bool
ends_with path suffix = pointwise nat_eq (drop (length path - length suffix) path) suffix

-- what is between the last slash and the suffix
abbrev pub stem_of : List ℕ → List ℕ → List ℕ
stem_of path suffix = behind_slashes (take (length path - length suffix) path)

-- whether the path ends so, or by the rules in capitals
abbrev pub ends_in : SourceRules → List ℕ → (small capital : List ℕ) → Bool
ends_in rules path small capital =
    ends_with path small || (rules.capitals && ends_with path capital)

-- what is before this end of the path
abbrev pub front : List ℕ → List ℕ → List ℕ
front path suffix = take (length path - length suffix) path

-- what is before the end of a database's path, if it is one
abbrev pub front_in_database : SourceRules → List ℕ → Option (List ℕ)
front_in_database rules path =
    if ends_in rules path (codes ".db") (codes ".DB") then Some (front path (codes ".db"))
    else if ends_in rules path (codes ".sqlite") (codes ".SQLITE")
    then Some (front path (codes ".sqlite"))
    else if ends_in rules path (codes ".sqlite3") (codes ".SQLITE3")
    then Some (front path (codes ".sqlite3"))
    else None

-- what is before the end of a text's path, if it is one
abbrev pub front_in_text : SourceRules → List ℕ → Option (List ℕ)
front_in_text rules path =
    if ends_in rules path (codes ".md") (codes ".MD") then Some (front path (codes ".md"))
    else if ends_in rules path (codes ".html") (codes ".HTML")
    then Some (front path (codes ".html"))
    else None

-- up to and with the last slash
abbrev pub folders_in : List ℕ → List ℕ
folders_in path = take (length path - length (behind_slashes path)) path

-- a folder's name, unless it is none, `.` or `..`
abbrev pub named : List ℕ → Option (List ℕ)
named name =
    if (length name == 0) || bytes_eq name (codes ".") || bytes_eq name (codes "..") then None
    else Some name

-- the name of the file's folder: the last segment before the last slash
abbrev pub folder_in : List ℕ → Option (List ℕ)
folder_in path = named (behind_slashes (take (length (folders_in path) - 1) (folders_in path)))

-- a text, whose path has this before its end
abbrev pub text_of_front : List ℕ → Format
text_of_front path = Text (behind_slashes path) (folder_in path)

-- a text whose path has this before its end, or else a data text
abbrev pub text_or : Option (List ℕ) → Format
text_or None = DataText
text_or (Some path) = text_of_front path

-- a database whose path has this before its end, or else another format
abbrev pub database_or : Option (List ℕ) → Format → Format
database_or None other = other
database_or (Some path) other = Database (behind_slashes path)

abbrev pub format_of : SourceRules → List ℕ → Format
format_of rules path =
    if ends_in rules path (codes ".csv") (codes ".CSV") then Csv (stem_of path (codes ".csv"))
    else if ends_in rules path (codes ".json") (codes ".JSON")
    then Json (stem_of path (codes ".json"))
    else if ends_in rules path (codes ".bib") (codes ".BIB")
    then BibTex (stem_of path (codes ".bib"))
    else database_or (front_in_database rules path) (text_or (front_in_text rules path))
