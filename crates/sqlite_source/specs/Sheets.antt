-- Tables as they are read: a sheet for each table that the schema lists.
use Rattle.std.specs.Prelude.{◌≡◌, ◌⊎◌, ℕ, List, [], ◌∷◌, ◌++◌, Ok, Err}
use Rattle.std.specs.List.{AllByRecursion}
use Rattle.graph_spec.specs.DataGraph.{Name}
use Rattle.sqlite_pages.specs.PageMap.{PageMap}
use Rattle.sqlite_source.specs.Names.{table_place}
use Rattle.sqlite_source.specs.Tables.{IsSoundTable, table_rows}
use Rattle.sqlite_source.specs.Rows.{DbStep, rows_steps}
use Rattle.sqlite_source.specs.Schema.{listed_in, AreSheetsOf}
use Rattle.sqlite_source.specs.declared.schema.Listed.{Listed}
use Rattle.sqlite_source.specs.declared.sheet.Sheet.{Sheet}
use Rattle.sqlite_source.specs.declared.refusal.DbRefusal.{DbRefusal}
use Rattle.sqlite_source.specs.declared.refusal.DbRefusal.TheVariants.{NotDatabase, Damaged}

module _ (pages : PageMap) (size : ℕ) where
  -- the schema, which is the table under page 1, is sound and lists tables, and they are read so
  pub record ListsSheets (sheets : List Sheet) : Type 0 where
    pub schema : IsSoundTable pages size 1
    pub listed : List Listed
    pub lists : listed_in (table_rows pages size 0 1) ≡ Ok listed
    pub read : AreSheetsOf listed sheets

  -- why it doesn't
  abbrev pub RefusesSchema : DbRefusal → Type 0
  RefusesSchema e =
      ((e ≡ NotDatabase) × (¬ IsSoundTable pages size 1))
      ⊎ (IsSoundTable pages size 1 × (listed_in (table_rows pages size 0 1) ≡ Err e))

  abbrev pub IsSoundSheet : Sheet → Type 0
  IsSoundSheet sheet = IsSoundTable pages size sheet.root

  abbrev pub AreSound : List Sheet → Type 0
  AreSound = AllByRecursion IsSoundSheet

  abbrev pub sheet_steps : Name → Sheet → List DbStep
  sheet_steps stem sheet =
      rows_steps stem sheet.name sheet.fields.items (table_rows pages size sheet.reals sheet.root)

  abbrev pub sheets_steps : Name → List Sheet → List DbStep
  sheets_steps stem [] = []
  sheets_steps stem (sheet ∷ sheets) = sheet_steps stem sheet ++ sheets_steps stem sheets

  -- the first that isn't sound is the one that is named
  abbrev pub FirstUnsound : List Sheet → DbRefusal → Type 0
  FirstUnsound [] e = ⊥
  FirstUnsound (sheet ∷ sheets) e =
      ((e ≡ Damaged (table_place sheet.name)) × (¬ IsSoundSheet sheet))
      ⊎ (IsSoundSheet sheet × FirstUnsound sheets e)
