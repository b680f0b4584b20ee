-- Answers of the readers, and the format of a path.
use Rattle.std.specs.Prelude.{◌≡◌, ◌≤◌, ◌||◌, ℕ, Bool, true, false, List, [], ◌∷◌, length, Err, if◌then◌else◌}
use Rattle.std.proofs.Common.{refl, inl, inr, arith}
use Rattle.std.specs.List.{list_any}
use Rattle.sd_graph.specs.Statement.{Building}
use Rattle.token_reader.specs.declared.refusal.TextRefusal.TheVariants as text
use Rattle.sd_ddl.specs.declared.refusal.DdlRefusal.TheVariants as ddl
use Rattle.csv_source.specs.declared.refusal.CsvRefusal.TheVariants as csv
use Rattle.csv_source.specs.Text as csv_text
use Rattle.json_source.specs.declared.refusal.JsonRefusal.TheVariants as json
use Rattle.json_source.specs.Text as json_text
use Rattle.bibtex_source.specs.declared.refusal.BibRefusal.TheVariants as bib
use Rattle.bibtex_source.specs.Text as bib_text
use Rattle.sqlite_source.specs.declared.refusal.DbRefusal.TheVariants as db
use Rattle.sqlite_source.specs.File.{is_headed}
use Rattle.sqlite_source.specs.Reads as db_file
use Rattle.text_source.specs.declared.refusal.TextFileRefusal.TheVariants as text_file
use Rattle.text_source.specs.Text as text_steps
use Rattle.data_source.specs.declared.rules.SourceRules.{SourceRules}
use Rattle.data_source.specs.declared.format.Format.{Format}
use Rattle.data_source.specs.declared.format.Format.TheVariants.{DataText, Csv, Json, BibTex, Database, Text}
use Rattle.data_source.specs.declared.refusal.SourceRefusal.TheVariants.{NoMemory}
use Rattle.data_source.specs.Formats.{is_slash, behind_slashes}
use Rattle.data_source.specs.Takes.{TakesAs}

-- out of memory before anything is read
pub no_memory_first : (rules : SourceRules) (format : Format) (limit : ℕ) (bytes : List ℕ) (b : Building) → TakesAs rules format limit bytes b b (Err NoMemory)
no_memory_first rules DataText limit bytes b = (Err (ddl.Text text.NoMemory), inl refl, refl)
no_memory_first rules (Csv stem) limit bytes b = (Err csv.NoMemory, ([], csv_text.text_steps rules.csv stem bytes, refl, refl), refl)
no_memory_first rules (Json stem) limit bytes b = (Err json.NoMemory, ([], json_text.text_steps rules.json stem bytes, refl, refl), refl)
no_memory_first rules (BibTex stem) limit bytes b = (Err bib.NoMemory, ([], bib_text.text_steps rules.bibtex stem bytes, refl, refl), refl)
no_memory_first rules (Text stem folder) limit bytes b = (Err text_file.NoMemory, ([], text_steps.file_steps stem folder bytes, refl, refl), refl)
no_memory_first rules (Database stem) limit bytes b = (Err db.NoMemory, by (is_headed bytes) refl, refl)
  where
    by : (headed : Bool) → is_headed bytes ≡ headed → db_file.Reads stem bytes b b (Err db.NoMemory)
    by true is = inl (is, inr (refl, inl refl))
    by false is = inr (is, (refl, inl refl))

-- the name, where the bytes of the rest are still to be seen
abbrev pub name_so_far : List ℕ → List ℕ → List ℕ
name_so_far name rest = if list_any is_slash rest then behind_slashes rest else name

pub behind_none : (path : List ℕ) → list_any is_slash path ≡ false → behind_slashes path ≡ path
behind_none [] h = refl
behind_none (b ∷ bs) h = by (is_slash b) (list_any is_slash bs) refl refl h
  where
    by : (p q : Bool) → is_slash b ≡ p → list_any is_slash bs ≡ q → (p || q) ≡ false → behind_slashes (b ∷ bs) ≡ b ∷ bs
    by true q is rest e = cc
    by false true is rest e = cc
    by false false is rest e = rw (rest, is) refl

pub name_start : (path : List ℕ) → name_so_far path path ≡ behind_slashes path
name_start path = by (list_any is_slash path) refl
  where
    by : (p : Bool) → list_any is_slash path ≡ p → name_so_far path path ≡ behind_slashes path
    by true is = rw is refl
    by false is = rw (is, behind_none path is) refl

-- a name is no longer than its path
pub name_length : (path : List ℕ) → length (behind_slashes path) ≤ length path
name_length [] = omega arith
name_length (b ∷ bs) = by (list_any is_slash bs) (is_slash b) (name_length bs)
  where
    by : (p q : Bool) → length (behind_slashes bs) ≤ length bs → length (if p then behind_slashes bs else if q then bs else b ∷ bs) ≤ length (b ∷ bs)
    by true q shorter = omega (arith, shorter)
    by false true shorter = omega arith
    by false false shorter = omega arith
