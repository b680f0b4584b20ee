-- What reading a database file into a graph answers, and what the graph holds afterwards.
use Rattle.std.specs.Prelude.{◌≡◌, ◌⊎◌, ℕ, true, false, List, Result, Ok, Err, ⊤}
use Rattle.graph_spec.specs.DataGraph.{Name}
use Rattle.sd_graph.specs.Statement.{Building}
use Rattle.sd_graph.specs.Stating.{Ends}
use Rattle.sqlite_pages.specs.PageMap.{PageMap}
use Rattle.sqlite_source.specs.File.{is_headed, pages_of, usable_size}
use Rattle.sqlite_source.specs.Tables.{IsSoundTable, table_rows}
use Rattle.sqlite_source.specs.Rows.{db_ending}
use Rattle.sqlite_source.specs.Schema.{listed_in}
use Rattle.sqlite_source.specs.Database.{AreSoundTables, FirstDamaged, tables_steps}
use Rattle.sqlite_source.specs.declared.schema.Listed.{Listed}
use Rattle.sqlite_source.specs.declared.refusal.DbRefusal.{DbRefusal}
use Rattle.sqlite_source.specs.declared.refusal.DbRefusal.TheVariants.{NotDatabase, NoMemory}

module _ (pages : PageMap) (size : ℕ) where
  -- the schema, which is the table under page 1, is sound and lists these tables, each of them sound
  pub record HasTables (tables : List Listed) : Type 0 where
    pub schema : IsSoundTable pages size 1
    pub lists : listed_in (table_rows pages size 0 1) ≡ Ok tables
    pub sound : AreSoundTables pages size tables

  -- why what the schema lists is refused: a table can't be read, or the first that isn't sound
  abbrev pub RefusesTables : Result (List Listed) DbRefusal → DbRefusal → Type 0
  RefusesTables (Err why) e = e ≡ why
  RefusesTables (Ok tables) e = FirstDamaged pages size tables e

  -- why pages are refused: their schema isn't sound, or what it lists is refused
  abbrev pub RefusesPages : DbRefusal → Type 0
  RefusesPages e =
      ((e ≡ NotDatabase) × (¬ IsSoundTable pages size 1))
      ⊎ (IsSoundTable pages size 1 × RefusesTables (listed_in (table_rows pages size 0 1)) e)

-- memory ran out, or there is a reason to refuse, before anything was stated
abbrev pub StatesNothing : (DbRefusal → Type 0) → Building → Building → Result ⊤ DbRefusal → Type 0
StatesNothing Refuses b c result =
    (c ≡ b)
    × ((result ≡ Err NoMemory) ⊎ ((e : DbRefusal) × Refuses e × (result ≡ Err e)))

-- the steps of the tables are taken from b, lead to c, and end with this answer; or nothing is
-- stated
abbrev pub ReadsPages : Name → PageMap → ℕ → Building → Building → Result ⊤ DbRefusal → Type 0
ReadsPages stem pages size b c result =
    ((tables : List Listed) × HasTables pages size tables
    × Ends b (tables_steps pages size stem tables tables) c (db_ending result))
    ⊎ StatesNothing (RefusesPages pages size) b c result

-- a file with a database's head is read by its pages, and any other is refused
abbrev pub Reads : Name → List ℕ → Building → Building → Result ⊤ DbRefusal → Type 0
Reads stem file b c result =
    ((is_headed file ≡ true) × ReadsPages stem (pages_of file) (usable_size file) b c result)
    ⊎ ((is_headed file ≡ false) × StatesNothing (λ e. e ≡ NotDatabase) b c result)
