-- How data files are read.
use Rattle.std.specs.Prelude.{Bool, true, false, if◌then◌else◌}
use Rattle.csv_source.specs.Rules as csv
use Rattle.json_source.specs.Rules as json
use Rattle.bibtex_source.specs.Rules as bibtex
use Rattle.data_source.specs.declared.rules.SourceRules.{SourceRules}

-- the formats as they are defined
abbrev pub strict : SourceRules
strict = record {
  capitals = false;
  csv = csv.strict;
  json = json.strict;
  bibtex = bibtex.strict;
}

-- CSV, JSON and BibTeX as people have them
abbrev pub lenient : SourceRules
lenient = record {
  capitals = true;
  csv = csv.lenient;
  json = json.lenient;
  bibtex = bibtex.lenient;
}

abbrev pub rules_of : (is_lenient : Bool) → SourceRules
rules_of is_lenient = if is_lenient then lenient else strict
