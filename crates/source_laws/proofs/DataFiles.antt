-- Each data file but a database has an answer over any graph, that of its format's reader; and no data file is without one.
use Rattle.std.proofs.Common.{◌≡◌, ℕ, List, refl, Result, Ok, Err}
use Rattle.std.specs.Prelude.{⊤}
use Rattle.token_reader.specs.declared.refusal.TextRefusal.TheVariants as text
use Rattle.sd_graph.specs.Statement.{Building}
use Rattle.sd_ddl.specs.declared.refusal.DdlRefusal.{DdlRefusal}
use Rattle.sd_ddl.specs.declared.refusal.DdlRefusal.TheVariants as ddl
use Rattle.ddl_laws.specs.OneAnswer.{IsSettled}
use Rattle.csv_source.specs.declared.refusal.CsvRefusal.{CsvRefusal}
use Rattle.csv_source.specs.declared.refusal.CsvRefusal.TheVariants as csv
use Rattle.json_source.specs.declared.refusal.JsonRefusal.{JsonRefusal}
use Rattle.json_source.specs.declared.refusal.JsonRefusal.TheVariants as json
use Rattle.bibtex_source.specs.declared.refusal.BibRefusal.{BibRefusal}
use Rattle.bibtex_source.specs.declared.refusal.BibRefusal.TheVariants as bib
use Rattle.sqlite_source.specs.declared.refusal.DbRefusal.{DbRefusal}
use Rattle.sqlite_source.specs.declared.refusal.DbRefusal.TheVariants as db
use Rattle.text_source.specs.declared.refusal.TextFileRefusal.{TextFileRefusal}
use Rattle.text_source.specs.declared.refusal.TextFileRefusal.TheVariants as text_file
use Rattle.data_source.specs.declared.rules.SourceRules.{SourceRules}
use Rattle.data_source.specs.declared.format.Format.{Format}
use Rattle.data_source.specs.declared.format.Format.TheVariants.{DataText, Csv, Json, BibTex, Database, Text}
use Rattle.data_source.specs.declared.refusal.SourceRefusal.{SourceRefusal}
use Rattle.data_source.specs.declared.refusal.SourceRefusal.TheVariants.{NoMemory}
use Rattle.data_source.specs.Formats.{format_of}
use Rattle.data_source.specs.Told.{ddl_told, csv_told, json_told, bib_told, db_told, text_file_told, answer_told}
use Rattle.data_source.specs.Takes.{TakesAs, Takes}
use Rattle.source_laws.proofs.DataTexts.{data_answer}
use Rattle.source_laws.proofs.Csv.{csv_answer}
use Rattle.source_laws.proofs.Json.{json_answer}
use Rattle.source_laws.proofs.Bibtex.{bibtex_answer}
use Rattle.source_laws.proofs.Databases.{none_is_absurd}
use Rattle.source_laws.proofs.Texts.{text_answer}

-- ---- an answer that a reader reports is out of memory only where the reader's is

abbrev IsTold : Result ⊤ SourceRefusal → Type 0
IsTold r = r ≡ Err NoMemory → ⊥

ddl_tells : (r : Result ⊤ DdlRefusal) → IsSettled r → IsTold (answer_told ddl_told r)
ddl_tells (Ok u) settled = λ e. cc
ddl_tells (Err (ddl.Text (text.TooLong at))) settled = λ e. cc
ddl_tells (Err (ddl.Text (text.BadByte at))) settled = λ e. cc
ddl_tells (Err (ddl.Text (text.OpenString at))) settled = λ e. cc
ddl_tells (Err (ddl.Text (text.IntOutOfRange at))) settled = λ e. cc
ddl_tells (Err (ddl.Text (text.Expected at))) settled = λ e. cc
ddl_tells (Err (ddl.Text text.NoMemory)) settled = absurd settled
ddl_tells (Err (ddl.KindConflict at)) settled = λ e. cc
ddl_tells (Err (ddl.TooManyEdges at)) settled = λ e. cc
ddl_tells (Err (ddl.TooManyNodes at)) settled = λ e. cc

csv_tells : (r : Result ⊤ CsvRefusal) → (r ≡ Err csv.NoMemory → ⊥) → IsTold (answer_told csv_told r)
csv_tells (Ok u) settled = λ e. cc
csv_tells (Err (csv.NotUtf8 row)) settled = λ e. cc
csv_tells (Err (csv.EmptyLabel column)) settled = λ e. cc
csv_tells (Err (csv.Ragged row)) settled = λ e. cc
csv_tells (Err (csv.TooManyEdges row)) settled = λ e. cc
csv_tells (Err (csv.TooManyNodes row)) settled = λ e. cc
csv_tells (Err csv.NoMemory) settled = absurd (settled refl)

json_tells : (r : Result ⊤ JsonRefusal) → (r ≡ Err json.NoMemory → ⊥) → IsTold (answer_told json_told r)
json_tells (Ok u) settled = λ e. cc
json_tells (Err json.NotJson) settled = λ e. cc
json_tells (Err (json.NotInteger path)) settled = λ e. cc
json_tells (Err (json.NotRecords path)) settled = λ e. cc
json_tells (Err (json.TooManyEdges path)) settled = λ e. cc
json_tells (Err (json.TooManyNodes path)) settled = λ e. cc
json_tells (Err json.NoMemory) settled = absurd (settled refl)

bib_tells : (r : Result ⊤ BibRefusal) → (r ≡ Err bib.NoMemory → ⊥) → IsTold (answer_told bib_told r)
bib_tells (Ok u) settled = λ e. cc
bib_tells (Err (bib.Expected at)) settled = λ e. cc
bib_tells (Err (bib.UnknownMacro at)) settled = λ e. cc
bib_tells (Err (bib.TooDeep at)) settled = λ e. cc
bib_tells (Err (bib.TooLarge at)) settled = λ e. cc
bib_tells (Err (bib.TooManyEdges at)) settled = λ e. cc
bib_tells (Err (bib.TooManyNodes at)) settled = λ e. cc
bib_tells (Err bib.NoMemory) settled = absurd (settled refl)

db_tells : (r : Result ⊤ DbRefusal) → (r ≡ Err db.NoMemory → ⊥) → IsTold (answer_told db_told r)
db_tells (Ok u) settled = λ e. cc
db_tells (Err db.NotDatabase) settled = λ e. cc
db_tells (Err (db.Damaged path)) settled = λ e. cc
db_tells (Err (db.NotRead path)) settled = λ e. cc
db_tells (Err (db.IsBlob path)) settled = λ e. cc
db_tells (Err (db.NotUtf8 path)) settled = λ e. cc
db_tells (Err (db.TooManyEdges path)) settled = λ e. cc
db_tells (Err (db.TooManyNodes path)) settled = λ e. cc
db_tells (Err db.NoMemory) settled = absurd (settled refl)

text_tells : (r : Result ⊤ TextFileRefusal) → (r ≡ Err text_file.NoMemory → ⊥) → IsTold (answer_told text_file_told r)
text_tells (Ok u) settled = λ e. cc
text_tells (Err (text_file.NotUtf8 at)) settled = λ e. cc
text_tells (Err (text_file.Expected at)) settled = λ e. cc
text_tells (Err (text_file.TooManyEdges at)) settled = λ e. cc
text_tells (Err (text_file.TooManyNodes at)) settled = λ e. cc
text_tells (Err text_file.NoMemory) settled = absurd (settled refl)

-- ---- the file

module _ (rules : SourceRules) (limit : ℕ) (bytes : List ℕ) (b : Building) where
  abbrev HasAnswer : Format → Type 0
  HasAnswer f = (c : Building) × (r : Result ⊤ SourceRefusal) × (r ≡ Err NoMemory → ⊥) × TakesAs rules f limit bytes b c r

  as_format : (f : Format) → ((stem : List ℕ) → f ≡ Database stem → ⊥) → HasAnswer f
  as_format DataText other =
      let h = data_answer limit bytes b in
      (h.0, answer_told ddl_told h.1, ddl_tells h.1 h.2, (h.1, h.3, refl))
  as_format (Csv stem) other =
      let h = csv_answer rules.csv stem bytes b in
      (h.0, answer_told csv_told h.1, csv_tells h.1 h.2, (h.1, h.3, refl))
  as_format (Json stem) other =
      let h = json_answer rules.json stem bytes b in
      (h.0, answer_told json_told h.1, json_tells h.1 h.2, (h.1, h.3, refl))
  as_format (BibTex stem) other =
      let h = bibtex_answer rules.bibtex stem bytes b in
      (h.0, answer_told bib_told h.1, bib_tells h.1 h.2, (h.1, h.3, refl))
  as_format (Text stem folder) other =
      let h = text_answer stem folder bytes b in
      (h.0, answer_told text_file_told h.1, text_tells h.1 h.2, (h.1, h.3, refl))
  as_format (Database stem) other = absurd (other stem refl)

  -- the format has no answer
  abbrev HasNone : Format → Type 0
  HasNone f = (c : Building) (r : Result ⊤ SourceRefusal) → (r ≡ Err NoMemory → ⊥) → TakesAs rules f limit bytes b c r → ⊥

  against : (f : Format) → HasNone f → HasAnswer f → ⊥
  against f none h = none h.0 h.1 h.2 h.3

  none_as : (f : Format) → HasNone f → ⊥
  none_as DataText none = against DataText none (as_format DataText (λ stem is. cc))
  none_as (Csv name) none = against (Csv name) none (as_format (Csv name) (λ stem is. cc))
  none_as (Json name) none = against (Json name) none (as_format (Json name) (λ stem is. cc))
  none_as (BibTex name) none = against (BibTex name) none (as_format (BibTex name) (λ stem is. cc))
  none_as (Text name folder) none = against (Text name folder) none (as_format (Text name folder) (λ stem is. cc))
  none_as (Database name) none =
      none_is_absurd name bytes b (λ c r told reads. none c (answer_told db_told r) (db_tells r told) (r, reads, refl))

pub file_answer : (rules : SourceRules) (path : List ℕ) (limit : ℕ) (bytes : List ℕ) (b : Building)
    → ((stem : List ℕ) → format_of rules path ≡ Database stem → ⊥)
    → (c : Building) × (r : Result ⊤ SourceRefusal) × (r ≡ Err NoMemory → ⊥) × Takes rules path limit bytes b c r
file_answer rules path limit bytes b other = as_format rules limit bytes b (format_of rules path) other

pub no_file_is_without : (rules : SourceRules) (path : List ℕ) (limit : ℕ) (bytes : List ℕ) (b : Building)
    → ((c : Building) (r : Result ⊤ SourceRefusal) → (r ≡ Err NoMemory → ⊥) → Takes rules path limit bytes b c r → ⊥) → ⊥
no_file_is_without rules path limit bytes b none = none_as rules limit bytes b (format_of rules path) none
