-- What the tables of a file state, one after another.
use Rattle.std.specs.Prelude.{◌≡◌, ◌⊎◌, ℕ, List, [], ◌∷◌, ◌++◌}
use Rattle.std.specs.List.{AllByRecursion}
use Rattle.graph_spec.specs.DataGraph.{Name}
use Rattle.sqlite_pages.specs.PageMap.{PageMap}
use Rattle.sqlite_source.specs.Names.{table_place}
use Rattle.sqlite_source.specs.Tables.{IsSoundTable, table_rows}
use Rattle.sqlite_source.specs.Rows.{DbStep, rows_steps}
use Rattle.sqlite_source.specs.Schema.{fields_of, reals_from}
use Rattle.sqlite_source.specs.declared.schema.Listed.{Listed}
use Rattle.sqlite_source.specs.declared.refusal.DbRefusal.{DbRefusal}
use Rattle.sqlite_source.specs.declared.refusal.DbRefusal.TheVariants.{Damaged}

module _ (pages : PageMap) (size : ℕ) where
  -- the pages of the table are sound
  abbrev pub IsSoundListed : Listed → Type 0
  IsSoundListed listed = IsSoundTable pages size listed.root

  -- those of each
  abbrev pub AreSoundTables : List Listed → Type 0
  AreSoundTables = AllByRecursion IsSoundListed

  -- the first of the tables whose pages aren't sound is the one that is named
  abbrev pub FirstDamaged : List Listed → DbRefusal → Type 0
  FirstDamaged [] e = ⊥
  FirstDamaged (listed ∷ more) e =
      ((e ≡ Damaged (table_place listed.name)) × (¬ IsSoundListed listed))
      ⊎ (IsSoundListed listed × FirstDamaged more e)

  -- a table states what its rows state, by ascending rowid; its references are to these tables
  abbrev pub table_steps : Name → List Listed → Listed → List DbStep
  table_steps stem tables listed =
      rows_steps stem listed.name (fields_of tables listed.table)
      (table_rows pages size (reals_from listed.table.columns) listed.root)

  -- these of them, one after another
  abbrev pub tables_steps : Name → List Listed → List Listed → List DbStep
  tables_steps stem tables [] = []
  tables_steps stem tables (listed ∷ more) =
      table_steps stem tables listed ++ tables_steps stem tables more
