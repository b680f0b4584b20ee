-- Each CSV text has an answer over any graph: its faults are those of a label or a record.
use Rattle.std.proofs.Common.{◌≡◌, ◌+◌, ℕ, List, [], ◌∷◌, length, refl, sym, subst, Result, Ok, Err}
use Rattle.std.specs.Prelude.{◌==◌, not, ⊤, if◌then◌else◌}
use Rattle.std.specs.List.{list_all}
use Rattle.std.specs.Str.{is_utf8}
use Rattle.graph_spec.specs.DataGraph.{Name}
use Rattle.sd_graph.specs.Statement.{Building}
use Rattle.sd_graph.specs.Stating.{fails, Ending, done, fault, too_many_nodes, too_many_edges, no_memory, Ends}
use Rattle.source_steps.specs.Names.{numbered}
use Rattle.source_steps.specs.Fields.{Field}
use Rattle.csv_source.specs.Separators.{CsvRecord, records_of}
use Rattle.csv_source.specs.declared.rules.CsvRules.{CsvRules}
use Rattle.csv_source.specs.declared.refusal.CsvRefusal.{CsvRefusal}
use Rattle.csv_source.specs.declared.refusal.CsvRefusal.TheVariants.{NotUtf8, EmptyLabel, TooManyEdges, TooManyNodes, NoMemory}
use Rattle.csv_source.specs.Text.{CsvStep, field_step, field_steps, fits, row_steps, rows_steps, label_faults, header_steps, records_steps, text_steps, csv_ending}
use Rattle.csv_source.specs.Reads.{Reads}
use Rattle.source_laws.proofs.Steps.{FailAs, fail_append, fail_choice, IsToldAs, ended}

-- the answer of this fault is the fault
abbrev IsItself : CsvRefusal → Type 0
IsItself f = csv_ending (Err f) ≡ fault f

module _ (rules : CsvRules) where
  field_fails : (k : ℕ) (n label : Name) (field : Field) → FailAs IsItself (field_step rules k n label field)
  field_fails k n label field = fail_choice IsItself (length field == 0) _ _ tt tt

  fields_fail : (k : ℕ) (n : Name) (labels : List Name) (fields : CsvRecord) → FailAs IsItself (field_steps rules k n labels fields)
  fields_fail k n [] fields = tt
  fields_fail k n (label ∷ labels) [] = tt
  fields_fail k n (label ∷ labels) (field ∷ fields) =
      fail_append IsItself (field_step rules k n label field) _ (field_fails k n label field) (fields_fail k n labels fields)

  row_fails : (stem : Name) (labels : List Name) (k : ℕ) (fields : CsvRecord) → FailAs IsItself (row_steps rules stem labels k fields)
  row_fails stem labels k fields =
      fail_choice IsItself (not (fits rules (length labels) (length fields))) _ _ (refl, tt)
      (fail_choice IsItself (not (list_all is_utf8 fields)) _ _ (refl, tt) (fields_fail k (numbered stem k) labels fields))

  rows_fail : (stem : Name) (labels : List Name) (k : ℕ) (rows : List CsvRecord) → FailAs IsItself (rows_steps rules stem labels k rows)
  rows_fail stem labels k [] = tt
  rows_fail stem labels k (fields ∷ rows) =
      fail_append IsItself (row_steps rules stem labels k fields) _ (row_fails stem labels k fields) (rows_fail stem labels (k + 1) rows)

-- a fault, where the label is empty
abbrev label_fault : ℕ → Name → List CsvStep
label_fault column label = if length label == 0 then fails (EmptyLabel column) ∷ [] else []

labels_fail : (column : ℕ) (labels : List Name) → FailAs IsItself (label_faults column labels)
labels_fail column [] = tt
labels_fail column (label ∷ labels) =
    fail_append IsItself (label_fault column label) (label_faults (column + 1) labels)
    (fail_choice IsItself (length label == 0) (fails (EmptyLabel column) ∷ []) [] (refl, tt) tt)
    (labels_fail (column + 1) labels)

header_fails : (labels : List Name) → FailAs IsItself (header_steps labels)
header_fails labels = fail_choice IsItself (not (list_all is_utf8 labels)) (fails (NotUtf8 0) ∷ []) (label_faults 0 labels) (refl, tt) (labels_fail 0 labels)

records_fail : (rules : CsvRules) (stem : Name) (records : List CsvRecord) → FailAs IsItself (records_steps rules stem records)
records_fail rules stem [] = tt
records_fail rules stem (labels ∷ rows) =
    fail_append IsItself (header_steps labels) _ (header_fails labels) (rows_fail rules stem labels 1 rows)

module _ (rules : CsvRules) (stem : Name) (bytes : List ℕ) (b : Building) where
  abbrev HasAnswer : Type 0
  HasAnswer = (c : Building) × (r : Result ⊤ CsvRefusal) × (r ≡ Err NoMemory → ⊥) × Reads rules stem bytes b c r

  fault_told : (f : CsvRefusal) → IsItself f → ◌≡◌ {A = Result ⊤ CsvRefusal} (Err f) (Err NoMemory) → ⊥
  fault_told f is e = let other : csv_ending (Err f) ≡ csv_ending (Err NoMemory) = λ i. csv_ending (e i) in cc

  of_ending : (c : Building) (e : Ending ℕ CsvRefusal) → IsToldAs IsItself e → Ends b (text_steps rules stem bytes) c e → HasAnswer
  of_ending c done told h = (c, Ok tt, (λ none. cc), h)
  of_ending c (fault f) told h = (c, Err f, fault_told f told, subst (Ends b (text_steps rules stem bytes) c) (sym told) h)
  of_ending c (too_many_nodes k) told h = (c, Err (TooManyNodes k), (λ none. cc), h)
  of_ending c (too_many_edges k) told h = (c, Err (TooManyEdges k), (λ none. cc), h)
  of_ending c no_memory told h = absurd told

  pub csv_answer : HasAnswer
  csv_answer =
      let e = ended IsItself b (text_steps rules stem bytes) (records_fail rules stem (records_of rules bytes)) in
      of_ending e.0 e.1 e.2 e.3
