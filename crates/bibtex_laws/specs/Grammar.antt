-- BibTeX texts: which bytes spell which items.
--
--   text  := junk { item junk }              junk  := any bytes but "@"
--   item  := "@" "comment"
--          | "@" "string" open name "=" value close
--          | "@" "preamble" open value close
--          | "@" type open key { "," field } [ "," ] close
--   open  := "{" | "("                       close := "}" or ")" as it was opened
--   field := name "=" value                  value := piece { "#" piece }
--   piece := digits | "{" balanced "}" | quote | name
--
-- Blanks may stand behind each part of an item. That a type, a name, a key and digits go on for as long as they can
-- makes a difference behind `@comment` alone: elsewhere what comes next doesn't belong to them.
use Rattle.std.specs.Prelude.{◌≡◌, ◌+◌, ℕ, Bool, true, false, List, [], ◌∷◌, ◌++◌, length, codes, map, if◌then◌else◌, Option, Some, None}
use Rattle.std.specs.Str.{bytes_eq}
use Rattle.grammar.specs.Fault.{Every}
use Rattle.grammar.specs.Grammar.{nothing, one, ◌>>=◌, ◌>>◌, either, many, iterated}
use Rattle.grammar.specs.Reading.{starts}
use Rattle.bibtex_spec.specs.declared.Field.{Field}
use Rattle.bibtex_spec.specs.Bytes.{is_blank, is_letter, is_digit, is_name_byte, is_key_byte, is_junk, lower, begins_name}
use Rattle.bibtex_spec.specs.Values.{tidy, has_room}
use Rattle.bibtex_spec.specs.Macros.{MacroTexts, text_of, with_macro}
use Rattle.bibtex_spec.specs.Reading.{same_byte, closing}
use Rattle.bibtex_laws.specs.Braces.{IsEnclosed, IsShallow}

-- What is kept apart from the grammar: whether names are wide, which text a macro's name stands for behind the text that
-- its value has before it, and which texts aren't too deep.
pub record Rules : Type 1 where
  pub wide : Bool
  pub stands : (before name text : List ℕ) → Type 0
  pub fits : List ℕ → Type 0

-- a name stands for its text by the macros, for which there is room, and no text has more than 64 open braces
abbrev pub strict : MacroTexts → Rules
strict macros = record {
  wide = macros.stand;
  stands = λ before name text. (text_of macros name ≡ Some text) × (has_room before text ≡ true);
  fits = IsShallow 0;
}

abbrev pub or_empty : Option (List ℕ) → List ℕ
or_empty (Some text) = text
or_empty None = []

-- The rules aside: every name stands for some text, the empty one where it stands for none, and no text is too deep or
-- too large.
abbrev pub free : MacroTexts → Rules
free macros = record {
  wide = macros.stand;
  stands = λ before name text. text ≡ or_empty (text_of macros name);
  fits = λ text. Unit {0};
}

-- What begins with an `@`. An entry's key stands at this place of the text.
pub data Phrase : Type 0 where
  Passing : Phrase
  Defining : List ℕ → List ℕ → Phrase
  Entering : (at : ℕ) (class key : List ℕ) → List Field → Phrase

-- bytes of one kind, each of them
abbrev pub each : (ℕ → Bool) → List ℕ → List ℕ → Type 0
each belongs bytes text = Every (λ b. belongs b ≡ true) bytes × (text ≡ bytes)

-- one or more bytes of a kind, the first of a kind of its own; as they are, or in lower case
abbrev pub word : (ℕ → Bool) → (ℕ → Bool) → List ℕ → List ℕ → Type 0
word first belongs bytes text =
    (starts first bytes ≡ true) × Every (λ b. belongs b ≡ true) bytes × (text ≡ bytes)

abbrev pub lower_word : (ℕ → Bool) → (ℕ → Bool) → List ℕ → List ℕ → Type 0
lower_word first belongs bytes text =
    (starts first bytes ≡ true) × Every (λ b. belongs b ≡ true) bytes × (text ≡ map lower bytes)

-- a phrase's value, and how many bytes it has
abbrev pub sized : {A : Type 0} → (List ℕ → A → Type 0) → List ℕ → A × ℕ → Type 0
sized P bytes found = P bytes found.0 × (found.1 ≡ length bytes)

-- blanks, with this value
abbrev pub blanks : {A : Type 0} → A → List ℕ → A → Type 0
blanks value = each is_blank >> nothing value

-- blanks alone
abbrev pub gap : List ℕ → Unit {0} → Type 0
gap = blanks tt

-- a phrase, and blanks behind it
abbrev pub spaced : {A : Type 0} → (List ℕ → A → Type 0) → List ℕ → A → Type 0
spaced P = P >>= λ value. blanks value

abbrev pub mark : ℕ → List ℕ → ℕ → Type 0
mark b = spaced (one (same_byte b))

-- an opening byte, which gives the one that closes
abbrev pub opening : List ℕ → ℕ → Type 0
opening = spaced (one closing)

abbrev pub name : (wide : Bool) → List ℕ → List ℕ → Type 0
name wide = spaced (lower_word (begins_name wide) (is_name_byte wide))

-- a name as it is written
abbrev pub written : (wide : Bool) → List ℕ → List ℕ → Type 0
written wide = spaced (word (begins_name wide) (is_name_byte wide))

abbrev pub key : List ℕ → List ℕ → Type 0
key = spaced (word is_key_byte is_key_byte)

abbrev pub digits : List ℕ → List ℕ → Type 0
digits = spaced (word is_digit is_digit)

-- a text, and the byte that closes it
abbrev pub enclosed : Rules → ℕ → List ℕ → List ℕ → Type 0
enclosed rules close bytes text =
    (bytes ≡ text ++ close ∷ []) × IsEnclosed 0 close text × rules.fits text

abbrev pub delimited : Rules → ℕ → ℕ → List ℕ → List ℕ → Type 0
delimited rules start close = spaced (one (same_byte start) >> enclosed rules close)

-- a piece of a value that has the text `before` so far

abbrev pub macro : Rules → List ℕ → List ℕ → List ℕ → Type 0
macro rules before bytes text =
    (word : List ℕ) × written rules.wide bytes word × rules.stands before word text

abbrev pub piece : Rules → List ℕ → List ℕ → List ℕ → Type 0
piece rules before =
    either digits
    (either (delimited rules 123 125) (either (delimited rules 34 34) (macro rules before)))

-- what it has with one piece more
abbrev pub further : Rules → List ℕ → List ℕ → List ℕ → Type 0
further rules before = do
  mark 35
  text ← piece rules before
  nothing (before ++ text)

abbrev pub value : Rules → List ℕ → List ℕ → Type 0
value rules = do
  first ← piece rules []
  iterated (further rules) first

abbrev pub field : Rules → List ℕ → Field → Type 0
field rules = do
  word ← name rules.wide
  mark 61
  text ← value rules
  nothing (record { name = word; text = tidy text })

abbrev pub fields : Rules → List ℕ → List Field → Type 0
fields rules = do
  found ← many (mark 44 >> field rules)
  either (mark 44 >> nothing found) (nothing found)

-- the byte that closes an item, and the bytes up to the next item
abbrev pub closed : {A : Type 0} → ℕ → A → List ℕ → A → Type 0
closed close value = one (same_byte close) >> (each is_junk >> nothing value)

-- behind the word `comment`: bytes up to the next item, of which no letter is first
abbrev pub comment : List ℕ → Phrase → Type 0
comment bytes phrase =
    (starts is_letter bytes ≡ false) × Every (λ b. is_junk b ≡ true) bytes × (phrase ≡ Passing)

abbrev pub definition : Rules → List ℕ → Phrase → Type 0
definition rules = do
  gap
  close ← opening
  word ← name rules.wide
  mark 61
  text ← value rules
  closed close (Defining word text)

abbrev pub preamble : Rules → List ℕ → Phrase → Type 0
preamble rules = do
  gap
  close ← opening
  value rules
  closed close Passing

-- an entry of this type, before which stand so many bytes of the text
abbrev pub entry : Rules → List ℕ → ℕ → List ℕ → Phrase → Type 0
entry rules class before = do
  start ← sized (gap >> opening)
  word ← key
  found ← fields rules
  closed start.0 (Entering (before + start.1) class word found)

-- what a word is that stands behind `@`: one of three, or an entry's type
pub data Kind : Type 0 where
  OfComment : Kind
  OfDefinition : Kind
  OfPreamble : Kind
  OfEntry : Kind

abbrev pub kind_of : List ℕ → Kind
kind_of class =
    if bytes_eq class (codes "comment") then OfComment
    else if bytes_eq class (codes "string") then OfDefinition
    else if bytes_eq class (codes "preamble") then OfPreamble
    else OfEntry

abbrev pub of_kind : Kind → Rules → List ℕ → ℕ → List ℕ → Phrase → Type 0
of_kind OfComment rules class before = comment
of_kind OfDefinition rules class before = definition rules
of_kind OfPreamble rules class before = preamble rules
of_kind OfEntry rules class before = entry rules class before

-- what a word begins
abbrev pub behind_word : Rules → List ℕ → ℕ → List ℕ → Phrase → Type 0
behind_word rules class before = of_kind (kind_of class) rules class before

-- an item that begins at this place of the text
abbrev pub item : Rules → ℕ → List ℕ → Phrase → Type 0
item rules at = do
  start ← sized (mark 64 >> lower_word is_letter is_letter)
  behind_word rules start.0 (at + start.1)

-- what a phrase leaves of the texts that names were defined as
abbrev pub known_behind : MacroTexts → Phrase → List (List ℕ × List ℕ)
known_behind macros Passing = macros.known
known_behind macros (Defining word found) = (with_macro macros word found).known
known_behind macros (Entering at class word found) = macros.known

abbrev pub macros_behind : MacroTexts → Phrase → MacroTexts
macros_behind macros phrase = record { known = known_behind macros phrase; stand = macros.stand }

-- Items, each by the macros that those before it leave. The first begins at this place of the text.
abbrev pub items : (MacroTexts → Rules) → MacroTexts → ℕ → List ℕ → List Phrase → Type 0
items rules macros at bytes [] = bytes ≡ []
items rules macros at bytes (phrase ∷ phrases) =
    (front : List ℕ) × (back : List ℕ) × (bytes ≡ front ++ back)
    × item (rules macros) at front phrase
    × items rules (macros_behind macros phrase) (at + length front) back phrases

-- a text, with these macros at first
abbrev pub text : (MacroTexts → Rules) → MacroTexts → List ℕ → List Phrase → Type 0
text rules first = sized (each is_junk) >>= λ junk. items rules first junk.1
