-- What the rows of a table state of a data graph, step by step.
use Rattle.std.specs.Prelude.{ℕ, ℤ, nat_lt, List, [], ◌∷◌, ◌++◌, length, Option, Some, None, Result, Ok, Err, ⊤, if◌then◌else◌}
use Rattle.std.specs.Str.{is_utf8}
use Rattle.sd_value.specs.declared.Value.{Value}
use Rattle.sd_value.specs.declared.Value.TheVariants.{Data}
use Rattle.sd_value.specs.declared.Datum.TheVariants as datum
use Rattle.graph_spec.specs.DataGraph.{Name}
use Rattle.sd_graph.specs.Statement.{a_node, a_member, an_edge}
use Rattle.sd_graph.specs.Stating.{Step, says, fails, Ending, done, fault, too_many_nodes, too_many_edges, no_memory}
use Rattle.sqlite_value.specs.declared.value.Value as sql
use Rattle.sqlite_value.specs.declared.value.Value.TheVariants.{Null, Int, Real, Text, Blob}
use Rattle.sqlite_value.specs.Order.{Row, column}
use Rattle.sqlite_trees.specs.Tree.{rowid}
use Rattle.sqlite_sql.specs.Spelling.{spelled}
use Rattle.json_source.specs.Names.{Pointer}
use Rattle.sqlite_source.specs.Names.{row_name, row_place, value_place}
use Rattle.sqlite_source.specs.declared.sheet.Field.{Field}
use Rattle.sqlite_source.specs.declared.refusal.DbRefusal.{DbRefusal}
use Rattle.sqlite_source.specs.declared.refusal.DbRefusal.TheVariants.{NotDatabase, Damaged, NotRead, IsBlob, NotUtf8, TooManyEdges, TooManyNodes, NoMemory}

abbrev pub DbStep : Type 0
DbStep = Step Pointer DbRefusal

-- an integer of a column that refers to the rows of a table is the node of the row with this rowid
abbrev pub integer_value : Name → Option Name → ℤ → Value
integer_value stem None n = Data (datum.Int n)
integer_value stem (Some table) n = Data (datum.Node (row_name stem table n))

-- what a value of a column states of its row's node. NULL states nothing
abbrev pub value_steps : Name → Pointer → Name → Field → sql.Value → List DbStep
value_steps stem at node f Null = []
value_steps stem at node f (Int n) =
    says at (an_edge node f.label (integer_value stem f.target n)) ∷ []
value_steps stem at node f (Real x) =
    says at (an_edge node f.label (Data (datum.Text (spelled x)))) ∷ []
value_steps stem at node f (Text t) =
    if is_utf8 t then says at (an_edge node f.label (Data (datum.Text t))) ∷ []
    else fails (NotUtf8 (value_place at f.label)) ∷ []
value_steps stem at node f (Blob b) = fails (IsBlob (value_place at f.label)) ∷ []

-- a row from before the column was added has the column's default
abbrev pub field_value : Field → Row → sql.Value
field_value f row = if nat_lt f.place (length row) then column row f.place else f.default

abbrev pub fields_steps : Name → Pointer → Name → List Field → Row → List DbStep
fields_steps stem at node [] row = []
fields_steps stem at node (f ∷ fields) row =
    value_steps stem at node f (field_value f row) ++ fields_steps stem at node fields row

-- a row: its node, its membership in the collection of its table, and its values in this order
abbrev pub named_statements : Name → Name → List Field → Row → Pointer → Name → List DbStep
named_statements stem table fields row at node =
    says at (a_node node) ∷ says at (a_member table node) ∷ fields_steps stem at node fields row

abbrev pub row_statements : Name → Name → List Field → Row → ℤ → List DbStep
row_statements stem table fields row id =
    named_statements stem table fields row (row_place table id) (row_name stem table id)

-- every row of a table has an integer as its rowid
abbrev pub steps_of_row : Name → Name → List Field → Row → sql.Value → List DbStep
steps_of_row stem table fields row Null = []
steps_of_row stem table fields row (Int id) = row_statements stem table fields row id
steps_of_row stem table fields row (Real x) = []
steps_of_row stem table fields row (Text t) = []
steps_of_row stem table fields row (Blob b) = []

abbrev pub row_steps : Name → Name → List Field → Row → List DbStep
row_steps stem table fields row = steps_of_row stem table fields row (rowid row)

abbrev pub rows_steps : Name → Name → List Field → List Row → List DbStep
rows_steps stem table fields [] = []
rows_steps stem table fields (row ∷ rows) =
    row_steps stem table fields row ++ rows_steps stem table fields rows

abbrev pub db_ending : Result ⊤ DbRefusal → Ending Pointer DbRefusal
db_ending (Ok u) = done
db_ending (Err (TooManyNodes p)) = too_many_nodes p
db_ending (Err (TooManyEdges p)) = too_many_edges p
db_ending (Err NoMemory) = no_memory
db_ending (Err e) = fault e
