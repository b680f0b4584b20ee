-- The value that a document is.
use Rattle.std.specs.Prelude.{Bool, true, false, List, ℕ, map, Option, None, option_and_then, if◌then◌else◌}
use Rattle.std.specs.List.{list_any}
use Rattle.std.specs.Str.{is_utf8}
use Rattle.json.specs.Token.{Token, number, string, bad}
use Rattle.json.specs.Lex.{tokens}
use Rattle.json.specs.Json as json
use Rattle.serde_json.specs.Data.{Data}
use Rattle.serde_json.specs.Read.{read, of_json, max_depth}
use Rattle.source_steps.specs.Names.{without_mark}
use Rattle.source_steps.specs.Fields.{is_integer}
use Rattle.json_source.specs.declared.rules.JsonRules.{JsonRules}

-- where a text is no JSON, its last token is a bad one
abbrev pub is_bad : Token → Bool
is_bad bad = true
is_bad token = false

-- a number that is not the decimal form of an integer of 64 bits is a string, spelled as in the file
abbrev pub spelled_token : Token → Token
spelled_token (number digits) = if is_integer digits then number digits else string digits
spelled_token token = token

-- the value of these tokens, as `serde_json` reads it
abbrev pub value_of_tokens : List Token → Option Data
value_of_tokens ts =
    option_and_then of_json
    (option_and_then (λ p. json.if_last p.0 p.1) (json.value max_depth ts))

-- the value of a text in which each number that is no integer of 64 bits is a string
abbrev pub spelled_value : List ℕ → Option Data
spelled_value text =
    if list_any is_bad (tokens text) then None
    else value_of_tokens (map spelled_token (tokens text))

-- the value that a text is by the rules, where it is JSON
abbrev pub value_by : JsonRules → List ℕ → Option Data
value_by rules text = if rules.spelled_numbers then spelled_value text else read text

-- such a value of a text, where it is UTF-8
abbrev pub if_utf8 : (List ℕ → Option Data) → List ℕ → Option Data
if_utf8 value text = if is_utf8 text then value text else None

-- the value that bytes are, where they are UTF-8 and JSON
abbrev pub value_of : JsonRules → List ℕ → Option Data
value_of rules bytes = if_utf8 (value_by rules) (without_mark bytes)
