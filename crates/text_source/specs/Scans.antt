-- What the readers of a text give, in the words of its definition.
use Rattle.std.specs.Prelude.{◌≡◌, ◌+◌, ◌-◌, ℕ, true, false, List, ◌++◌, length, Option, Some, None, option_map, Result, Ok, Err, ⊤}
use Rattle.std.specs.Borrow.{Bor}
use Rattle.std.specs.Str.{is_utf8}
use Rattle.std.specs.Str.Lossy.{utf8_valid_len}
use Rattle.graph_spec.specs.DataGraph.{Name}
use Rattle.text_source.specs.declared.facts.Fact.{Fact}
use Rattle.text_source.specs.declared.front.Kind as line
use Rattle.text_source.specs.declared.front.Kind.TheVariants as line_is
use Rattle.text_source.specs.declared.refusal.TextFileRefusal.{TextFileRefusal}
use Rattle.text_source.specs.declared.refusal.TextFileRefusal.TheVariants.{NotUtf8, Expected, NoMemory}
use Rattle.text_source.specs.Lines.{Line, front_lines, text_lines, joined}
use Rattle.text_source.specs.Front.{Kind, passed, item, field, other, kind_of, said, said_by, label_after}
use Rattle.text_source.specs.Text.{file_facts}

-- the bytes that are there
abbrev pub now_of : Option (Bor (List ℕ)) → Option (List ℕ)
now_of text = option_map (λ bytes. bytes.now) text

-- a line's kind, read as the definition has it
abbrev pub kind_read : line.Kind → Kind
kind_read line_is.Passed = passed
kind_read (line_is.Item value) = item value.now
kind_read (line_is.Field label value) = field label.now value.now
kind_read line_is.Other = other

-- what a line adds under this label, or that it can't stand at its place
abbrev pub TakesLine : ℕ → Option Name → List ℕ → List Fact → List Fact
    → Result (Option (Bor (List ℕ))) TextFileRefusal → Type 0
TakesLine at above text old new (Ok label) =
    (more : List Fact) × (said_by at above (kind_of text) ≡ Some more) × (new ≡ old ++ more)
    × (now_of label ≡ label_after above (kind_of text))
TakesLine at above text old new (Err (Expected place)) =
    (place ≡ at) × (said_by at above (kind_of text) ≡ None)
TakesLine at above text old new (Err NoMemory) = ⊤
TakesLine at above text old new (Err e) = ⊥

-- what all lines add, or the place of the first that can't stand there
abbrev pub SaysAll : Result (List Fact) ℕ → List Fact → List Fact → Result ⊤ TextFileRefusal
    → Type 0
SaysAll found old new (Ok u) = (more : List Fact) × (found ≡ Ok more) × (new ≡ old ++ more)
SaysAll found old new (Err (Expected place)) = found ≡ Err place
SaysAll found old new (Err NoMemory) = ⊤
SaysAll found old new (Err e) = ⊥

-- whether the bytes are a text, and if not where they cease to be one
abbrev pub IsText : ℕ → List ℕ → Result ⊤ TextFileRefusal → Type 0
IsText size text (Ok u) = is_utf8 text ≡ true
IsText size text (Err e) =
    (is_utf8 text ≡ false) × (e ≡ NotUtf8 (size - length text + utf8_valid_len text))

-- these are the facts of a text's lines
abbrev pub AreFacts : Name → Option Name → List Line → List Fact → Type 0
AreFacts stem folder lines facts =
    (front : List Fact) × (said None (front_lines lines) ≡ Ok front)
    × (facts ≡ file_facts stem folder front (joined (text_lines lines)))

-- the front matter of the lines is at fault, unless memory ran out
abbrev pub IsAtFault : List Line → TextFileRefusal → Type 0
IsAtFault lines (Expected place) = said None (front_lines lines) ≡ Err place
IsAtFault lines NoMemory = ⊤
IsAtFault lines e = ⊥
