-- What stands between the fields of a text, and the records of it.
use Rattle.std.specs.Prelude.{◌||◌, ℕ, Bool, true, nat_eq, List, [], ◌∷◌, None, if◌then◌else◌}
use Rattle.std.specs.List.{list_any}
use Rattle.csv.specs.declared.parser.Config.{Config}
use Rattle.csv.specs.declared.parser.Terminator.TheVariants as term
use Rattle.csv.specs.Reading.{records, strip_bom}
use Rattle.source_steps.specs.Names.{without_mark}
use Rattle.source_steps.specs.Fields.{Field}
use Rattle.csv_source.specs.declared.rules.CsvRules.{CsvRules}

abbrev pub CsvRecord : Type 0
CsvRecord = List Field

-- how `csv` reads where this byte is between fields, and else as it does by itself
abbrev pub separated : ℕ → Config
separated d = record {
  delimiter = d;
  quote = 34;
  escape = None;
  double_quote = true;
  quoting = true;
  comment = None;
  terminator = term.CRLF;
}

-- the records of a text with this byte between fields. One byte order mark is dropped, and `csv`
-- drops one more
abbrev pub records_by : ℕ → List ℕ → List CsvRecord
records_by d bytes = records (separated d) (strip_bom (without_mark bytes))

abbrev pub is_comma : ℕ → Bool
is_comma byte = nat_eq byte 44

-- a semicolon or a tab
abbrev pub is_other_separator : ℕ → Bool
is_other_separator byte = nat_eq byte 59 || nat_eq byte 9

-- the first semicolon or tab, and a comma where there is none
abbrev pub first_separator : Field → ℕ
first_separator [] = 44
first_separator (byte ∷ bytes) = if is_other_separator byte then byte else first_separator bytes

-- what separates the fields of a text whose header, read with commas, is this one field
abbrev pub separator_in : Field → ℕ
separator_in field = if list_any is_comma field then 44 else first_separator field

-- what separates the fields of a text that has this header if it is read with commas: a comma,
-- unless the header is one field without a comma in it
abbrev pub separator_of_header : CsvRecord → ℕ
separator_of_header (field ∷ []) = separator_in field
separator_of_header fields = 44

-- the same of a text that has these records
abbrev pub separator_of : List CsvRecord → ℕ
separator_of [] = 44
separator_of (header ∷ rows) = separator_of_header header

-- what separates the fields of a text: a comma, or by the rules what its header shows
abbrev pub separator_by : CsvRules → List ℕ → ℕ
separator_by rules bytes =
    if rules.other_separators then separator_of (records_by 44 bytes) else 44

-- the records of a text
abbrev pub records_of : CsvRules → List ℕ → List CsvRecord
records_of rules bytes = records_by (separator_by rules bytes) bytes
