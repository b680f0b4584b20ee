-- No database is without an answer: that it had none is absurd. Whether pages are sound is decided by code and not by a
-- definition, so that there is an answer is shown twice denied.
use Rattle.std.proofs.Common.{◌≡◌, ◌⊎◌, ℕ, ℤ, Bool, true, false, List, [], ◌∷◌, refl, sym, subst, inl, inr, Result, Ok, Err}
use Rattle.std.specs.Prelude.{⊤, Option, Some, None}
use Rattle.std.specs.Str.{is_utf8}
use Rattle.graph_spec.specs.DataGraph.{Name}
use Rattle.sd_graph.specs.Statement.{Building}
use Rattle.sd_graph.specs.Stating.{Ending, done, fault, too_many_nodes, too_many_edges, no_memory, Ends}
use Rattle.sqlite_pages.specs.PageMap.{PageMap}
use Rattle.sqlite_value.specs.declared.value.Value as sql
use Rattle.sqlite_value.specs.declared.value.Value.TheVariants.{Null, Int, Real, Text, Blob}
use Rattle.sqlite_value.specs.Order.{Row, column}
use Rattle.sqlite_schema.specs.declared.schema.Table.{Table}
use Rattle.sqlite_resolve.specs.Compile.{table_defined_by}
use Rattle.sqlite_resolve.specs.declared.error.CompileError.{CompileError}
use Rattle.sqlite_trees.specs.Tree.{rowid}
use Rattle.json_source.specs.Names.{Pointer}
use Rattle.sqlite_source.specs.File.{is_headed, pages_of, usable_size}
use Rattle.sqlite_source.specs.Tables.{IsSoundTable, table_rows}
use Rattle.sqlite_source.specs.Names.{table_place}
use Rattle.sqlite_source.specs.Schema.{fields_of, reals_from, text_or_none, listed_in, listed_at, root_in, with_table}
use Rattle.sqlite_source.specs.Rows.{value_steps, field_value, fields_steps, steps_of_row, row_steps, rows_steps, db_ending}
use Rattle.sqlite_source.specs.Database.{AreSoundTables, FirstDamaged, table_steps, tables_steps}
use Rattle.sqlite_source.specs.Reads.{HasTables, RefusesTables, RefusesPages, Reads}
use Rattle.sqlite_source.specs.declared.sheet.Field.{Field}
use Rattle.sqlite_source.specs.declared.schema.Listed.{Listed}
use Rattle.sqlite_source.specs.declared.refusal.DbRefusal.{DbRefusal}
use Rattle.sqlite_source.specs.declared.refusal.DbRefusal.TheVariants.{NotDatabase, Damaged, TooManyEdges, TooManyNodes, NoMemory}
use Rattle.source_laws.proofs.Steps.{FailAs, fail_append, fail_choice, IsToldAs, ended}

-- the answer of this fault is the fault
abbrev IsItself : DbRefusal → Type 0
IsItself f = db_ending (Err f) ≡ fault f

-- ---- what the rows of a table state

value_fails : (stem : Name) (at : Pointer) (node : Name) (f : Field) (v : sql.Value) → FailAs IsItself (value_steps stem at node f v)
value_fails stem at node f Null = tt
value_fails stem at node f (Int n) = tt
value_fails stem at node f (Real x) = tt
value_fails stem at node f (Text t) = fail_choice IsItself (is_utf8 t) _ _ tt (refl, tt)
value_fails stem at node f (Blob b) = (refl, tt)

fields_fail : (stem : Name) (at : Pointer) (node : Name) (fields : List Field) (row : Row) → FailAs IsItself (fields_steps stem at node fields row)
fields_fail stem at node [] row = tt
fields_fail stem at node (f ∷ fields) row =
    fail_append IsItself (value_steps stem at node f (field_value f row)) _ (value_fails stem at node f (field_value f row)) (fields_fail stem at node fields row)

numbered_fails : (stem table : Name) (fields : List Field) (row : Row) (v : sql.Value) → FailAs IsItself (steps_of_row stem table fields row v)
numbered_fails stem table fields row Null = tt
numbered_fails stem table fields row (Int id) = fields_fail stem _ _ fields row
numbered_fails stem table fields row (Real x) = tt
numbered_fails stem table fields row (Text t) = tt
numbered_fails stem table fields row (Blob b) = tt

rows_fail : (stem table : Name) (fields : List Field) (rows : List Row) → FailAs IsItself (rows_steps stem table fields rows)
rows_fail stem table fields [] = tt
rows_fail stem table fields (row ∷ rows) =
    fail_append IsItself (row_steps stem table fields row) _ (numbered_fails stem table fields row (rowid row)) (rows_fail stem table fields rows)

tables_fail : (pages : PageMap) (size : ℕ) (stem : Name) (tables left : List Listed) → FailAs IsItself (tables_steps pages size stem tables left)
tables_fail pages size stem tables [] = tt
tables_fail pages size stem tables (l ∷ left) =
    fail_append IsItself (table_steps pages size stem tables l) _
    (rows_fail stem l.name (fields_of tables l.table) (table_rows pages size (reals_from l.table.columns) l.root))
    (tables_fail pages size stem tables left)

-- ---- which tables there are

-- a refusal other than out of memory
abbrev IsTold : DbRefusal → Type 0
IsTold e = e ≡ NoMemory → ⊥

abbrev AllTold : Result (List Listed) DbRefusal → Type 0
AllTold (Ok tables) = ⊤
AllTold (Err e) = IsTold e

table_told : (row : Row) (root : ℕ) (table : Result Table CompileError) (rest : Result (List Listed) DbRefusal) → AllTold rest → AllTold (with_table row root table rest)
table_told row root (Err why) rest h = λ was. cc
table_told row root (Ok table) (Err f) h = h
table_told row root (Ok table) (Ok more) h = tt

at_told : (row : Row) (root : Option ℕ) (rest : Result (List Listed) DbRefusal) → AllTold rest → AllTold (listed_at row root rest)
at_told row None rest h = h
at_told row (Some root) rest h = table_told row root (table_defined_by (text_or_none (column row 5))) rest h

all_told : (rows : List Row) → AllTold (listed_in rows)
all_told [] = tt
all_told (row ∷ rows) = at_told row (root_in row) (listed_in rows) (all_told rows)

module _ (pages : PageMap) (size : ℕ) where
  -- the tables are sound, or one is the first that isn't
  decided : (tables : List Listed) → (AreSoundTables pages size tables → ⊥) → ((e : DbRefusal) → FirstDamaged pages size tables e → IsTold e → ⊥) → ⊥
  decided [] sound damaged = sound tt
  decided (l ∷ tables) sound damaged =
      damaged (Damaged (table_place l.name))
      (inl (refl, (λ first. decided tables (λ others. sound (first, others)) (λ e is told. damaged e (inr (first, is)) told)))) (λ was. cc)

-- ---- the file

module _ (stem : Name) (file : List ℕ) (b : Building) where
  abbrev pub HasNone : Type 0
  HasNone = (c : Building) (r : Result ⊤ DbRefusal) → (r ≡ Err NoMemory → ⊥) → Reads stem file b c r → ⊥

  abbrev pages : PageMap
  pages = pages_of file

  abbrev size : ℕ
  size = usable_size file

  refusal_told : (e : DbRefusal) → IsTold e → ◌≡◌ {A = Result ⊤ DbRefusal} (Err e) (Err NoMemory) → ⊥
  refusal_told e told is = told (let x : ◌≡◌ {A = Result ⊤ DbRefusal} (Err e) (Err NoMemory) = is in cc)

  fault_told : (f : DbRefusal) → IsItself f → ◌≡◌ {A = Result ⊤ DbRefusal} (Err f) (Err NoMemory) → ⊥
  fault_told f is e = let other : db_ending (Err f) ≡ db_ending (Err NoMemory) = λ i. db_ending (e i) in cc

  module _ (none : HasNone) (headed : is_headed file ≡ true) where
    refused : (e : DbRefusal) → IsTold e → RefusesPages pages size e → ⊥
    refused e told why = none b (Err e) (refusal_told e told) (inl (headed, inr (refl, inr (e, why, refl))))

    of_ending : (tables : List Listed) → HasTables pages size tables → (c : Building) (e : Ending Pointer DbRefusal) → IsToldAs IsItself e
        → Ends b (tables_steps pages size stem tables tables) c e → ⊥
    of_ending tables has c done told h = none c (Ok tt) (λ was. cc) (inl (headed, inl (tables, has, h)))
    of_ending tables has c (fault f) told h =
        none c (Err f) (fault_told f told) (inl (headed, inl (tables, has, subst (Ends b (tables_steps pages size stem tables tables) c) (sym told) h)))
    of_ending tables has c (too_many_nodes k) told h = none c (Err (TooManyNodes k)) (λ was. cc) (inl (headed, inl (tables, has, h)))
    of_ending tables has c (too_many_edges k) told h = none c (Err (TooManyEdges k)) (λ was. cc) (inl (headed, inl (tables, has, h)))
    of_ending tables has c no_memory told h = absurd told

    of_tables : (tables : List Listed) → HasTables pages size tables → ⊥
    of_tables tables has =
        let e = ended IsItself b (tables_steps pages size stem tables tables) (tables_fail pages size stem tables tables) in
        of_ending tables has e.0 e.1 e.2 e.3

    of_schema : IsSoundTable pages size 1 → (listed : Result (List Listed) DbRefusal) → listed_in (table_rows pages size 0 1) ≡ listed → AllTold listed → ⊥
    of_schema sound (Err e) is told = refused e told (inr (sound, subst (λ l. RefusesTables pages size l e) (sym is) refl))
    of_schema sound (Ok tables) is told =
        decided pages size tables (λ all. of_tables tables (record { schema = sound; lists = is; sound = all }))
        (λ e first named. refused e named (inr (sound, subst (λ l. RefusesTables pages size l e) (sym is) first)))

    of_pages : ⊥
    of_pages =
        refused NotDatabase (λ was. cc)
        (inl (refl, (λ sound. of_schema sound (listed_in (table_rows pages size 0 1)) refl (all_told (table_rows pages size 0 1)))))

  pub none_is_absurd : HasNone → ⊥
  none_is_absurd none = by (is_headed file) refl
    where
      by : (h : Bool) → is_headed file ≡ h → ⊥
      by true is = of_pages none is
      by false is = none b (Err NotDatabase) (λ was. cc) (inr (is, (refl, inr (NotDatabase, refl, refl))))
