-- What reading a data file into a graph answers, and what the graph holds afterwards.
use Rattle.std.specs.Prelude.{◌≡◌, ℕ, List, Result, ⊤}
use Rattle.sd_graph.specs.Statement.{Building}
use Rattle.sd_ddl.specs.Reads as ddl
use Rattle.csv_source.specs.Reads as csv
use Rattle.json_source.specs.Reads as json
use Rattle.bibtex_source.specs.Reads as bib
use Rattle.sqlite_source.specs.Reads as db
use Rattle.text_source.specs.Reads as text
use Rattle.data_source.specs.declared.rules.SourceRules.{SourceRules}
use Rattle.data_source.specs.declared.format.Format.{Format}
use Rattle.data_source.specs.declared.format.Format.TheVariants.{DataText, Csv, Json, BibTex, Database, Text}
use Rattle.data_source.specs.declared.refusal.SourceRefusal.{SourceRefusal}
use Rattle.data_source.specs.Formats.{format_of}
use Rattle.data_source.specs.Told.{ddl_told, csv_told, json_told, bib_told, db_told, text_file_told, answer_told}

-- the answer reports one of these answers of a reader
abbrev pub Tells : {E : Type 0} → (Result ⊤ E → Type 0) → (E → SourceRefusal)
    → Result ⊤ SourceRefusal → Type 0
Tells {E} Answers told result =
    (answer : Result ⊤ E) × Answers answer × (result ≡ answer_told told answer)

-- the bytes are read by the format
abbrev pub TakesAs : SourceRules → Format → ℕ → List ℕ → Building → Building
    → Result ⊤ SourceRefusal → Type 0
TakesAs rules DataText limit bytes b c result =
    Tells (ddl.Reads limit bytes b c) ddl_told result
TakesAs rules (Csv stem) limit bytes b c result =
    Tells (csv.Reads rules.csv stem bytes b c) csv_told result
TakesAs rules (Json stem) limit bytes b c result =
    Tells (json.Reads rules.json stem bytes b c) json_told result
TakesAs rules (BibTex stem) limit bytes b c result =
    Tells (bib.Reads rules.bibtex stem bytes b c) bib_told result
TakesAs rules (Database stem) limit bytes b c result =
    Tells (db.Reads stem bytes b c) db_told result
TakesAs rules (Text stem folder) limit bytes b c result =
    Tells (text.Reads stem folder bytes b c) text_file_told result

-- the bytes of the file of this path are read by its format
abbrev pub Takes : SourceRules → List ℕ → ℕ → List ℕ → Building → Building
    → Result ⊤ SourceRefusal → Type 0
Takes rules path limit bytes b c result =
    TakesAs rules (format_of rules path) limit bytes b c result
