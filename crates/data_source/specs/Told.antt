-- The numbers and places of refusals.
use Rattle.std.specs.Prelude.{Option, Some, None, Result, Ok, Err, ⊤}
use Rattle.run_report.specs.declared.status.Place.TheVariants.{At, Row, Column, Path}
use Rattle.sd_ddl.specs.declared.refusal.DdlRefusal.{DdlRefusal}
use Rattle.sd_ddl.specs.declared.refusal.DdlRefusal.TheVariants as ddl
use Rattle.csv_source.specs.declared.refusal.CsvRefusal.{CsvRefusal}
use Rattle.csv_source.specs.declared.refusal.CsvRefusal.TheVariants as csv
use Rattle.json_source.specs.declared.refusal.JsonRefusal.{JsonRefusal}
use Rattle.json_source.specs.declared.refusal.JsonRefusal.TheVariants as json
use Rattle.bibtex_source.specs.declared.refusal.BibRefusal.{BibRefusal}
use Rattle.bibtex_source.specs.declared.refusal.BibRefusal.TheVariants as bib
use Rattle.sqlite_source.specs.declared.refusal.DbRefusal.{DbRefusal}
use Rattle.sqlite_source.specs.declared.refusal.DbRefusal.TheVariants as db
use Rattle.text_source.specs.declared.refusal.TextFileRefusal.{TextFileRefusal}
use Rattle.text_source.specs.declared.refusal.TextFileRefusal.TheVariants as text
use Rattle.data_source.specs.Numbered.{text_told}
use Rattle.data_source.specs.declared.numbered.NumberedFault.{NumberedFault}
use Rattle.data_source.specs.declared.refusal.SourceRefusal.{SourceRefusal}
use Rattle.data_source.specs.declared.refusal.SourceRefusal.TheVariants.{Refused, NoMemory}

-- a refused text with its number; none out of memory
abbrev pub placed : Option NumberedFault → SourceRefusal
placed (Some told) = Refused told.number (At told.at)
placed None = NoMemory

abbrev pub ddl_told : DdlRefusal → SourceRefusal
ddl_told (ddl.Text e) = placed (text_told 31 e)
ddl_told (ddl.KindConflict at) = Refused 32 (At at)
ddl_told (ddl.TooManyEdges at) = Refused 11 (At at)
ddl_told (ddl.TooManyNodes at) = Refused 12 (At at)

abbrev pub csv_told : CsvRefusal → SourceRefusal
csv_told (csv.NotUtf8 row) = Refused 41 (Row row)
csv_told (csv.EmptyLabel column) = Refused 42 (Column column)
csv_told (csv.Ragged row) = Refused 43 (Row row)
csv_told (csv.TooManyEdges row) = Refused 11 (Row row)
csv_told (csv.TooManyNodes row) = Refused 12 (Row row)
csv_told csv.NoMemory = NoMemory

abbrev pub json_told : JsonRefusal → SourceRefusal
json_told json.NotJson = Refused 44 (At 0)
json_told (json.NotInteger path) = Refused 45 (Path path)
json_told (json.NotRecords path) = Refused 46 (Path path)
json_told (json.TooManyEdges path) = Refused 11 (Path path)
json_told (json.TooManyNodes path) = Refused 12 (Path path)
json_told json.NoMemory = NoMemory

abbrev pub bib_told : BibRefusal → SourceRefusal
bib_told (bib.Expected at) = Refused 121 (At at)
bib_told (bib.UnknownMacro at) = Refused 122 (At at)
bib_told (bib.TooDeep at) = Refused 123 (At at)
bib_told (bib.TooLarge at) = Refused 124 (At at)
bib_told (bib.TooManyEdges at) = Refused 11 (At at)
bib_told (bib.TooManyNodes at) = Refused 12 (At at)
bib_told bib.NoMemory = NoMemory

abbrev pub db_told : DbRefusal → SourceRefusal
db_told db.NotDatabase = Refused 171 (At 0)
db_told (db.Damaged path) = Refused 172 (Path path)
db_told (db.NotRead path) = Refused 173 (Path path)
db_told (db.IsBlob path) = Refused 174 (Path path)
db_told (db.NotUtf8 path) = Refused 41 (Path path)
db_told (db.TooManyEdges path) = Refused 11 (Path path)
db_told (db.TooManyNodes path) = Refused 12 (Path path)
db_told db.NoMemory = NoMemory

abbrev pub text_file_told : TextFileRefusal → SourceRefusal
text_file_told (text.NotUtf8 at) = Refused 41 (At at)
text_file_told (text.Expected at) = Refused 161 (At at)
text_file_told (text.TooManyEdges at) = Refused 11 (At at)
text_file_told (text.TooManyNodes at) = Refused 12 (At at)
text_file_told text.NoMemory = NoMemory

-- a reader's answer, with its refusal reported
abbrev pub answer_told : {E : Type 0} → (E → SourceRefusal) → Result ⊤ E → Result ⊤ SourceRefusal
answer_told told (Ok u) = Ok tt
answer_told told (Err e) = Err (told e)
