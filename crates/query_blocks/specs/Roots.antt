-- The root page's function: that of the first term without arguments in a CREATE.
use Rattle.std.specs.Prelude.{ℕ, List, Option, option_map, find}
use Rattle.std.specs.List.{flat_map}
use Rattle.query_spec.specs.Query.{SkolemTerm, Body}
use Rattle.site_spec.specs.Root.{has_no_args}

-- the first term without arguments
abbrev pub first_root : List SkolemTerm → Option SkolemTerm
first_root terms = find (λ t. has_no_args t.args) terms

-- over the blocks of a query in the text's order
abbrev pub root_of_bodies : List Body → Option (List ℕ)
root_of_bodies bodies = option_map (λ t. t.function) (first_root (flat_map (λ b. b.creates) bodies))
