-- Places of values, and names of objects that are nodes.
use Rattle.std.specs.Prelude.{◌+◌, ◌/◌, ◌%◌, ◌==◌, ◌&&◌, ◌||◌, not, ℕ, Bool, nat_lt, List, [], ◌∷◌, ◌++◌, codes, decimal, if◌then◌else◌}
use Rattle.std.specs.List.{flat_map}
use Rattle.graph_spec.specs.DataGraph.{Name}
use Rattle.source_steps.specs.Names.{numbered}

-- where a value is in the text: a JSON Pointer
abbrev pub Pointer : Type 0
Pointer = List ℕ

-- in a pointer, `~` is written `~0` and `/` is written `~1`
abbrev pub pointer_byte : ℕ → List ℕ
pointer_byte c = if c == 126 then codes "~0" else if c == 47 then codes "~1" else c ∷ []

abbrev pub member_place : Pointer → Name → Pointer
member_place at key = at ++ codes "/" ++ flat_map pointer_byte key

-- items are counted from 0
abbrev pub item_place : Pointer → ℕ → Pointer
item_place at index = at ++ codes "/" ++ decimal index

abbrev pub is_between : ℕ → ℕ → ℕ → Bool
is_between low high c = not (nat_lt c low) && not (nat_lt high c)

-- the bytes that names keep: A-Z, a-z, 0-9 and `-`
abbrev pub is_kept : ℕ → Bool
is_kept c = is_between 65 90 c || is_between 97 122 c || is_between 48 57 c || (c == 45)

abbrev pub hexadecimal : ℕ → ℕ
hexadecimal d = if nat_lt d 10 then 48 + d else 55 + d

-- in a name, any other byte of a key is written `~XX`
abbrev pub name_byte : ℕ → List ℕ
name_byte c = if is_kept c then c ∷ [] else 126 ∷ hexadecimal (c / 16) ∷ hexadecimal (c % 16) ∷ []

abbrev pub member_name : Name → Name → Name
member_name name key = name ++ codes "_" ++ flat_map name_byte key

-- in names items are counted from 1
abbrev pub item_name : Name → ℕ → Name
item_name name index = numbered name (index + 1)
