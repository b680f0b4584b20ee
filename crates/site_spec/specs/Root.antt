-- The root page's function: that of the first term without arguments in a CREATE of the query's
-- text.
use Rattle.std.specs.Prelude.{List, [], ◌∷◌, Bool, true, false, Option, option_map, find}
use Rattle.std.specs.List.{flat_map}
use Rattle.graph_spec.specs.DataGraph.{Name}
use Rattle.query_spec.specs.Query.{Operand, Query, blocks_in_scope}

-- there are none
abbrev pub has_no_args : List Operand → Bool
has_no_args [] = true
has_no_args (operand ∷ operands) = false

-- the function of the root page, if the query creates one
abbrev pub root_function : Query → Option Name
root_function q =
    option_map (λ t. t.function)
    (find (λ t. has_no_args t.args) (flat_map (λ b. b.creates) (blocks_in_scope q)))
