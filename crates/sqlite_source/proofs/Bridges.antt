-- What is said of sheets, said of the tables that they are of.
use Rattle.std.specs.Prelude.{◌≡◌, ◌⊎◌, ℕ, List, [], ◌∷◌, ◌++◌, Ok, Err}
use Rattle.std.specs.List.{AllZip}
use Rattle.std.proofs.Common.{refl, sym, ◌∙◌, ap, ap₂, subst, inl, inr}
use Rattle.graph_spec.specs.DataGraph.{Name}
use Rattle.sqlite_pages.specs.PageMap.{PageMap}
use Rattle.sqlite_source.specs.Names.{table_place}
use Rattle.sqlite_source.specs.Tables.{IsSoundTable}
use Rattle.sqlite_source.specs.Schema.{IsSheetOf}
use Rattle.sqlite_source.specs.Sheets.{AreSound, FirstUnsound, sheet_steps, sheets_steps, RefusesSchema}
use Rattle.sqlite_source.specs.Database.{AreSoundTables, FirstDamaged, table_steps, tables_steps}
use Rattle.sqlite_source.specs.Reads.{RefusesTables, RefusesPages}
use Rattle.sqlite_source.specs.declared.schema.Listed.{Listed}
use Rattle.sqlite_source.specs.declared.sheet.Sheet.{Sheet}
use Rattle.sqlite_source.specs.declared.refusal.DbRefusal.{DbRefusal}
use Rattle.sqlite_source.specs.declared.refusal.DbRefusal.TheVariants.{Damaged}

module _ (pages : PageMap) (size : ℕ) (tables : List Listed) where
  pub sound_tables : (left : List Listed) (sheets : List Sheet) → AllZip (IsSheetOf tables) left sheets → AreSound pages size sheets → AreSoundTables pages size left
  sound_tables [] [] p h = tt
  sound_tables [] (x ∷ sheets) p h = absurd p
  sound_tables (l ∷ left) [] p h = absurd p
  sound_tables (l ∷ left) (x ∷ sheets) p h = (subst (IsSoundTable pages size) p.0.root h.0, sound_tables left sheets p.1 h.1)

  pub first_damaged : (left : List Listed) (sheets : List Sheet) (e : DbRefusal) → AllZip (IsSheetOf tables) left sheets → FirstUnsound pages size sheets e
      → FirstDamaged pages size left e
  first_damaged [] [] e p h = absurd h
  first_damaged [] (x ∷ sheets) e p h = absurd p
  first_damaged (l ∷ left) [] e p h = absurd p
  first_damaged (l ∷ left) (x ∷ sheets) e p h = elim h [
    | inl a ↦ inl (a.0 ∙ ap (λ n. Damaged (table_place n)) p.0.name, (λ sound. a.1 (subst (IsSoundTable pages size) (sym p.0.root) sound)))
    | inr a ↦ inr (subst (IsSoundTable pages size) p.0.root a.0, first_damaged left sheets e p.1 a.1)
  ]

  same_table : (stem : Name) (listed : Listed) (sheet : Sheet) → IsSheetOf tables listed sheet → sheet_steps pages size stem sheet ≡ table_steps pages size stem tables listed
  same_table stem listed sheet p = rw (p.name, p.root, p.reals, p.fields) refl

  pub same_steps : (stem : Name) (left : List Listed) (sheets : List Sheet) → AllZip (IsSheetOf tables) left sheets
      → sheets_steps pages size stem sheets ≡ tables_steps pages size stem tables left
  same_steps stem [] [] p = refl
  same_steps stem [] (x ∷ sheets) p = absurd p
  same_steps stem (l ∷ left) [] p = absurd p
  same_steps stem (l ∷ left) (x ∷ sheets) p = ap₂ (λ a b. a ++ b) (same_table stem l x p.0) (same_steps stem left sheets p.1)

module _ (pages : PageMap) (size : ℕ) where
  pub schema_refuses : (e : DbRefusal) → RefusesSchema pages size e → RefusesPages pages size e
  schema_refuses e h = elim h [
    | inl a ↦ inl a
    | inr a ↦ inr (a.0, subst (λ l. RefusesTables pages size l e) (sym a.1) refl)
  ]
