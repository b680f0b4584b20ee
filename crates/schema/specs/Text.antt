-- The text of a query's schema: `other`, and for each function, ascending, a line `F/ARITY` and a line for each link that
-- starts at it, `  link N in PATH: LINK to TARGET`. A link that ends at no page ends at `other`.
use Rattle.std.specs.Prelude.{◌≡◌, ℕ, List, ◌++◌, filter, codes}
use Rattle.std.specs.Fmt.{decimal}
use Rattle.std.specs.List.{flat_map}
use Rattle.sd_value.specs.Ascending.{ListsExactly}
use Rattle.query_spec.specs.Query as plain
use Rattle.query_spec.specs.Query.{Target, made, summed, Query, blocks_in_scope}
use Rattle.struql_print.specs.Texts.{link_text}
use Rattle.site_spec.specs.Schema.{SchemaEdge, schema_edges, starts_at}
use Rattle.schema.specs.declared.SchemaFunction.{SchemaFunction}
use Rattle.schema.specs.Orders.{function_cmp}
use Rattle.schema.specs.Rows.{IsFunctionIn}

-- the function at which a link ends, or `other`
abbrev pub end_text : Target → List ℕ
end_text (plain.plain operand) = codes "other"
end_text (made t) = t.function
end_text (summed a) = codes "other"

-- `  link N in PATH: LINK to TARGET`
abbrev pub edge_line : SchemaEdge → List ℕ
edge_line e =
    (codes "  link " ++ (decimal e.number ++ (codes " in " ++ (e.path ++ codes ": "))))
    ++ (link_text e.link ++ (codes " to " ++ (end_text e.link.target ++ codes "\n")))

-- `F/ARITY`
abbrev pub function_name : SchemaFunction → List ℕ
function_name f = f.name ++ (codes "/" ++ decimal f.arity)

-- the line of a function, and those of the links that start at it
abbrev pub function_lines : List SchemaEdge → SchemaFunction → List ℕ
function_lines edges f =
    function_name f ++ (codes "\n" ++ flat_map edge_line (filter (starts_at f.name) edges))

-- the whole text
abbrev pub IsSchemaText : Query → List ℕ → Type 0
IsSchemaText q text =
    (functions : List SchemaFunction)
    × ListsExactly function_cmp (IsFunctionIn (blocks_in_scope q)) functions
    × (text ≡ codes "other\n" ++ flat_map (function_lines (schema_edges q)) functions)
