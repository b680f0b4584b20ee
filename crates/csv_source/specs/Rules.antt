-- How CSV texts are read.
use Rattle.std.specs.Prelude.{true, false}
use Rattle.csv_source.specs.declared.rules.CsvRules.{CsvRules}

-- commas separate fields, each record has a field for each label, and each text is a text
abbrev pub strict : CsvRules
strict = record { other_separators = false; short_records = false; links = false }

-- the header's separator separates fields, records may be short, and texts that are links are URLs
abbrev pub lenient : CsvRules
lenient = record { other_separators = true; short_records = true; links = true }
