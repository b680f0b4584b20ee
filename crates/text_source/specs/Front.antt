-- What the lines of front matter say.
use Rattle.std.specs.Prelude.{◌&&◌, ◌||◌, ℕ, Bool, true, false, nat_eq, List, [], ◌∷◌, ◌++◌, map}
use Rattle.std.specs.Prelude.{Option, Some, None, Result, Ok, Err, if◌then◌else◌}
use Rattle.sd_value.specs.declared.Datum.{Datum}
use Rattle.graph_spec.specs.DataGraph.{Name}
use Rattle.text_source.specs.declared.facts.Fact.{Fact}
use Rattle.text_source.specs.declared.facts.Fact.TheVariants.{Edge}
use Rattle.text_source.specs.Lines.{Line}
use Rattle.text_source.specs.Values.{is_blank, after_blanks, trimmed, values_of}

-- what a line is
pub data Kind : Type 0 where
  -- empty, or a comment
  passed : Kind
  -- one more value of the label above
  item : List ℕ → Kind
  -- a label, and its value
  field : Name → List ℕ → Kind
  other : Kind

abbrev pub is_none : List ℕ → Bool
is_none [] = true
is_none (b ∷ bytes) = false

-- whether it begins with `#`
abbrev pub is_comment : List ℕ → Bool
is_comment [] = false
is_comment (b ∷ bytes) = nat_eq b 35

-- whether nothing or a blank is next
abbrev pub is_apart : List ℕ → Bool
is_apart [] = true
is_apart (b ∷ bytes) = is_blank b

-- what follows a `-` that stands apart
abbrev pub item_of : List ℕ → Option (List ℕ)
item_of [] = None
item_of (b ∷ bytes) = if nat_eq b 45 && is_apart bytes then Some (trimmed bytes) else None

-- whether a line may not begin so: with a blank or `-`
abbrev pub is_inner : List ℕ → Bool
is_inner [] = false
is_inner (b ∷ bytes) = is_blank b || nat_eq b 45

-- what stands after the first colon that a blank or nothing follows, and what stands before it
abbrev pub after_colon : List ℕ → Option (List ℕ)
after_colon [] = None
after_colon (b ∷ bytes) = if nat_eq b 58 && is_apart bytes then Some bytes else after_colon bytes

abbrev pub before_colon : List ℕ → List ℕ
before_colon [] = []
before_colon (b ∷ bytes) = if nat_eq b 58 && is_apart bytes then [] else b ∷ before_colon bytes

-- a label that isn't empty, and its value
abbrev pub labelled : List ℕ → Option (List ℕ) → Kind
labelled label None = other
labelled [] (Some value) = other
labelled (b ∷ label) (Some value) = field (trimmed (b ∷ label)) (trimmed value)

abbrev pub field_of : List ℕ → Kind
field_of text = labelled (before_colon text) (after_colon text)

-- one more value, or else a field, which begins with neither a blank nor `-`
abbrev pub item_or : Option (List ℕ) → List ℕ → Kind
item_or (Some value) text = item value
item_or None text = if is_inner text then other else field_of text

abbrev pub kind_of : List ℕ → Kind
kind_of text =
    if is_comment text || is_none (after_blanks text) then passed
    else item_or (item_of (after_blanks text)) text

-- ---- all lines

-- an edge to each value of the label, at this place
abbrev pub stated : ℕ → Name → List Datum → List Fact
stated at label = map (λ v. Edge at label v)

-- the label that the lines below may give more values, after a line
abbrev pub label_after : Option Name → Kind → Option Name
label_after above passed = above
label_after above (item value) = above
label_after above (field label []) = Some label
label_after above (field label (b ∷ value)) = None
label_after above other = None

-- what a line at a place says under this label, or that it can't stand there
abbrev pub said_by : ℕ → Option Name → Kind → Option (List Fact)
said_by at above passed = Some []
said_by at (Some label) (item value) = Some (stated at label (values_of value))
said_by at None (item value) = None
said_by at above (field label value) = Some (stated at label (values_of value))
said_by at above other = None

-- what is said before the rest, unless the rest is at fault
abbrev pub before : List Fact → Result (List Fact) ℕ → Result (List Fact) ℕ
before front (Ok rest) = Ok (front ++ rest)
before front (Err at) = Err at

-- a line's values before the rest, or the line is at fault
abbrev pub said_then : ℕ → Option (List Fact) → Result (List Fact) ℕ
    → Result (List Fact) ℕ
said_then at (Some said) rest = before said rest
said_then at None rest = Err at

-- what the lines say together, or the place of the first that can't stand there
abbrev pub said : Option Name → List Line → Result (List Fact) ℕ
said above [] = Ok []
said above (l ∷ lines) =
    said_then l.at (said_by l.at above (kind_of l.text))
    (said (label_after above (kind_of l.text)) lines)
