-- The lines of the schema, by what its engine keeps.
use Rattle.std.specs.Prelude.{ℕ, List, ◌++◌, Option, Some, None, codes}
use Rattle.std.specs.Fmt.{decimal}
use Rattle.std.specs.List.{flat_map}
use Rattle.token_writer.specs.Writing.{quoted_text}
use Rattle.schema.specs.declared.SchemaFunction.{SchemaFunction}
use Rattle.schema.specs.declared.SchemaEdge.{SchemaEdge}
use Rattle.schema.specs.Rows.{rows_from}
use Rattle.schema.specs.Text.{function_name}
use Rattle.schema.specs.Picture.{node_text}

abbrev pub end_word : Option SchemaFunction → List ℕ
end_word None = codes "other"
end_word (Some f) = f.name

abbrev pub row_head : SchemaEdge → List ℕ
row_head e = codes "  link " ++ (decimal e.number ++ (codes " in " ++ (e.path ++ codes ": ")))

abbrev pub row_line : SchemaEdge → List ℕ
row_line e = row_head e ++ (e.link ++ (codes " to " ++ (end_word e.target ++ codes "\n")))

abbrev pub row_lines : List SchemaEdge → SchemaFunction → List ℕ
row_lines edges f =
    function_name f ++ (codes "\n" ++ flat_map row_line (rows_from f.name edges))

abbrev pub end_name : Option SchemaFunction → List ℕ
end_name None = quoted_text (codes "other")
end_name (Some f) = node_text f

abbrev pub row_label : SchemaEdge → List ℕ
row_label e = decimal e.number ++ (codes ": " ++ (e.label ++ e.conditions))

abbrev pub row_ends : SchemaFunction → SchemaEdge → List ℕ
row_ends f e = codes "  " ++ (node_text f ++ (codes " -> " ++ end_name e.target))

abbrev pub row_statement : SchemaFunction → SchemaEdge → List ℕ
row_statement f e =
    row_ends f e ++ (codes " [label=" ++ (quoted_text (row_label e) ++ codes "]\n"))

abbrev pub row_statements : List SchemaEdge → SchemaFunction → List ℕ
row_statements edges f =
    codes "  " ++ (node_text f
    ++ (codes "\n" ++ flat_map (row_statement f) (rows_from f.name edges)))
