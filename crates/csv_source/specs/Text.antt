-- What a CSV text states of a data graph, step by step.
use Rattle.std.specs.Prelude.{◌+◌, ◌==◌, ◌&&◌, ◌||◌, not, ℕ, Bool, nat_lt, List, [], ◌∷◌, ◌++◌, length, if◌then◌else◌, Result, Ok, Err, ⊤}
use Rattle.std.specs.List.{list_all}
use Rattle.std.specs.Str.{is_utf8}
use Rattle.graph_spec.specs.DataGraph.{Name}
use Rattle.sd_graph.specs.Statement.{a_node, a_member, an_edge}
use Rattle.sd_graph.specs.Stating.{Step, says, fails, Ending, done, fault, too_many_nodes, too_many_edges, no_memory}
use Rattle.source_steps.specs.Names.{numbered}
use Rattle.source_steps.specs.Fields.{Field, value_of}
use Rattle.csv_source.specs.Separators.{CsvRecord, records_of}
use Rattle.csv_source.specs.declared.rules.CsvRules.{CsvRules}
use Rattle.csv_source.specs.declared.refusal.CsvRefusal.{CsvRefusal}
use Rattle.csv_source.specs.declared.refusal.CsvRefusal.TheVariants.{NotUtf8, EmptyLabel, Ragged, TooManyEdges, TooManyNodes, NoMemory}

abbrev pub CsvStep : Type 0
CsvStep = Step ℕ CsvRefusal

module _ (rules : CsvRules) where
  -- a field that is not empty, under its column's label
  abbrev pub field_step : ℕ → Name → Name → Field → List CsvStep
  field_step k n label field =
      if length field == 0 then []
      else says k (an_edge n label (value_of rules.links field)) ∷ []

  -- the fields of a record. One that isn't there states as much as an empty one: nothing
  abbrev pub field_steps : ℕ → Name → List Name → CsvRecord → List CsvStep
  field_steps k n [] fields = []
  field_steps k n (label ∷ labels) [] = []
  field_steps k n (label ∷ labels) (field ∷ fields) =
      field_step k n label field ++ field_steps k n labels fields

  -- record k: its node, its member and its fields in this order
  abbrev pub row_statements : Name → Name → List Name → ℕ → CsvRecord → List CsvStep
  row_statements stem name labels k fields =
      says k (a_node name) ∷ says k (a_member stem name) ∷ field_steps k name labels fields

  -- whether a record with so many fields may stand under so many labels
  abbrev pub fits : ℕ → ℕ → Bool
  fits labels fields = (fields == labels) || (rules.short_records && nat_lt fields labels)

  -- record k under a header: of two faults, the length comes first
  abbrev pub row_steps : Name → List Name → ℕ → CsvRecord → List CsvStep
  row_steps stem labels k fields =
      if not (fits (length labels) (length fields)) then fails (Ragged k) ∷ []
      else if not (list_all is_utf8 fields) then fails (NotUtf8 k) ∷ []
      else row_statements stem (numbered stem k) labels k fields

  -- the records from number k on
  abbrev pub rows_steps : Name → List Name → ℕ → List CsvRecord → List CsvStep
  rows_steps stem labels k [] = []
  rows_steps stem labels k (fields ∷ rows) =
      row_steps stem labels k fields ++ rows_steps stem labels (k + 1) rows

-- a fault at each label that is empty
abbrev pub label_faults : ℕ → List Name → List CsvStep
label_faults column [] = []
label_faults column (label ∷ labels) =
    (if length label == 0 then fails (EmptyLabel column) ∷ [] else [])
    ++ label_faults (column + 1) labels

abbrev pub header_steps : List Name → List CsvStep
header_steps labels =
    if not (list_all is_utf8 labels) then fails (NotUtf8 0) ∷ [] else label_faults 0 labels

-- the first record is the header
abbrev pub records_steps : CsvRules → Name → List CsvRecord → List CsvStep
records_steps rules stem [] = []
records_steps rules stem (labels ∷ rows) =
    header_steps labels ++ rows_steps rules stem labels 1 rows

-- the steps of a text
abbrev pub text_steps : CsvRules → Name → List ℕ → List CsvStep
text_steps rules stem bytes = records_steps rules stem (records_of rules bytes)

abbrev pub csv_ending : Result ⊤ CsvRefusal → Ending ℕ CsvRefusal
csv_ending (Ok u) = done
csv_ending (Err (TooManyNodes k)) = too_many_nodes k
csv_ending (Err (TooManyEdges k)) = too_many_edges k
csv_ending (Err NoMemory) = no_memory
csv_ending (Err e) = fault e
