-- Macros by their names, in the names' order.
use Rattle.std.specs.Prelude.{ℕ, Bool, true, false, List, [], ◌∷◌, map, codes, Option, Some, None}
use Rattle.std.specs.BTreeMap.{insert_entry, is_at}
use Rattle.std.specs.Map.{lookup}
use Rattle.sd_value.specs.Order.{bytes_cmp}
use Rattle.graph_spec.specs.DataGraph.{Name}
use Rattle.bibtex_spec.specs.Bytes.{lower}

-- The texts that names were defined as, and whether names are lenient: they are wide, and any other stands for itself.
pub record MacroTexts : Type 0 where
  pub known : List (Name × List ℕ)
  pub stand : Bool

-- what a name stands for, by how it is written and what it was defined as
abbrev pub or_itself : Bool → Name → Option (List ℕ) → Option (List ℕ)
or_itself stand written (Some text) = Some text
or_itself true written None = Some written
or_itself false written None = None

-- the text that a name stands for, if it stands for one: its case makes no difference where it was defined
abbrev pub text_of : MacroTexts → Name → Option (List ℕ)
text_of macros written =
    or_itself macros.stand written (lookup (is_at (bytes_cmp (map lower written))) macros.known)

-- a name, in lower case, defined anew
abbrev pub with_macro : MacroTexts → Name → List ℕ → MacroTexts
with_macro macros name text =
    record { known = insert_entry bytes_cmp macros.known name text; stand = macros.stand }

-- each of these names defined as itself
abbrev pub with_names : MacroTexts → List Name → MacroTexts
with_names macros [] = macros
with_names macros (name ∷ names) = with_names (with_macro macros name name) names

-- the months, by their first three letters
unfoldable pub months : (stand : Bool) → MacroTexts
months stand =
    with_names (record { known = []; stand = stand })
    (codes "jan" ∷ codes "feb" ∷ codes "mar" ∷ codes "apr" ∷ codes "may" ∷ codes "jun"
    ∷ codes "jul" ∷ codes "aug" ∷ codes "sep" ∷ codes "oct" ∷ codes "nov" ∷ codes "dec" ∷ [])
