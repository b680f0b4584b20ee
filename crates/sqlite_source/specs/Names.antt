-- Names of rows, and places: pointers as those of JSON.
use Rattle.std.specs.Prelude.{[], ◌++◌, ℤ, codes}
use Rattle.std.specs.Fmt.{signed_decimal}
use Rattle.graph_spec.specs.DataGraph.{Name}
use Rattle.json_source.specs.Names.{Pointer, member_place}

-- the node of a table's row is named after the file, the table and the rowid
abbrev pub row_name : Name → Name → ℤ → Name
row_name stem table id = stem ++ codes "_" ++ table ++ codes "_" ++ signed_decimal id

abbrev pub table_place : Name → Pointer
table_place table = member_place [] table

-- a row is under its table by its rowid
abbrev pub row_place : Name → ℤ → Pointer
row_place table id = table_place table ++ codes "/" ++ signed_decimal id

-- a value is under its row by its column
abbrev pub value_place : Pointer → Name → Pointer
value_place at label = member_place at label
