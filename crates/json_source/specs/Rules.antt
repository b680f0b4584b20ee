-- How JSON texts are read.
use Rattle.std.specs.Prelude.{true, false}
use Rattle.json_source.specs.declared.rules.JsonRules.{JsonRules}

-- each number is an integer of 64 bits, each member of an object at the top is a list of records,
-- and each text is a text
abbrev pub strict : JsonRules
strict = record { spelled_numbers = false; tables = false; links = false; orders = false }

-- other numbers are texts, the lists of objects are collections, texts that are links are URLs, and
-- lists of texts and numbers keep their order
abbrev pub lenient : JsonRules
lenient = record { spelled_numbers = true; tables = true; links = true; orders = true }
