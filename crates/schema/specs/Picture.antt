-- The schema in Graphviz's language: a node for `other` and for each function, and an edge for each link, with its number,
-- its label and its block's conditions as its text.
use Rattle.std.specs.Prelude.{◌≡◌, ℕ, List, ◌++◌, filter, codes}
use Rattle.std.specs.Fmt.{decimal}
use Rattle.std.specs.List.{flat_map}
use Rattle.sd_value.specs.Ascending.{ListsExactly}
use Rattle.token_writer.specs.Writing.{quoted_text}
use Rattle.query_spec.specs.Query as plain
use Rattle.query_spec.specs.Query.{Target, made, summed, Query, blocks_in_scope}
use Rattle.struql_print.specs.Texts.{label_text}
use Rattle.site_spec.specs.Schema.{SchemaEdge, schema_edges, starts_at}
use Rattle.schema.specs.declared.SchemaFunction.{SchemaFunction}
use Rattle.schema.specs.Orders.{function_cmp}
use Rattle.schema.specs.Rows.{IsFunctionIn, term_function, conditions_text}
use Rattle.schema.specs.Text.{function_name}

-- the node of a function is named `F/ARITY`, and that of no function `other`
abbrev pub node_text : SchemaFunction → List ℕ
node_text f = quoted_text (function_name f)

-- the node at which a link ends
abbrev pub end_node : Target → List ℕ
end_node (plain.plain operand) = quoted_text (codes "other")
end_node (made t) = node_text (term_function t)
end_node (summed a) = quoted_text (codes "other")

-- what stands at an edge: `N: LABEL`, and a line for each condition
abbrev pub edge_label : ℕ → SchemaEdge → List ℕ
edge_label version e =
    decimal e.number ++ (codes ": " ++ (label_text e.link.label ++ conditions_text version e.conditions))

-- `  "F/1" -> "G/0" [label="N: LABEL"]`, for a link that starts at the function
abbrev pub edge_statement : ℕ → SchemaFunction → SchemaEdge → List ℕ
edge_statement version f e =
    (codes "  " ++ (node_text f ++ (codes " -> " ++ end_node e.link.target)))
    ++ (codes " [label=" ++ (quoted_text (edge_label version e) ++ codes "]\n"))

-- the node of a function, and the edges of the links that start at it
abbrev pub function_statements : ℕ → List SchemaEdge → SchemaFunction → List ℕ
function_statements version edges f =
    codes "  " ++ (node_text f
    ++ (codes "\n" ++ flat_map (edge_statement version f) (filter (starts_at f.name) edges)))

-- the whole picture
abbrev pub IsPicture : Query → List ℕ → Type 0
IsPicture q text =
    (functions : List SchemaFunction)
    × ListsExactly function_cmp (IsFunctionIn (blocks_in_scope q)) functions
    × (text ≡ codes "digraph site {\n  \"other\"\n"
    ++ (flat_map (function_statements q.version (schema_edges q)) functions ++ codes "}\n"))
