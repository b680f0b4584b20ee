-- Templates as they are in the file, and the file that they make.
use Rattle.std.specs.Prelude.{◌≡◌, ℕ, ◌+◌, Bool, true, false, List, [], ◌∷◌, map, if◌then◌else◌, Option, Some, None, Result, Ok, Err}
use Rattle.std.specs.Global.{Vec}
use Rattle.grammar.specs.Reading.{Outcome, Read}
use Rattle.template_items.specs.declared.item.Item.{Item}
use Rattle.tmpl.specs.Body.{body_of, Named, TemplateFile}
use Rattle.template_reader.specs.declared.file.Head as declared_head
use Rattle.template_reader.specs.declared.file.Entry as declared_entry
use Rattle.token_reader.specs.declared.halt.Halt.{Halt}
use Rattle.token_reader.specs.Gives.{Fails}
use Rattle.template_tags.specs.Tag.{expr}
use Rattle.template_reader.specs.Template.{body, template, Head, Entry}

-- the head that the reader found
abbrev pub head_of : declared_head.Head → Head
head_of h = record { of_collection = h.of_collection; name = h.name }

-- the template that the reader found
abbrev pub entry_of : declared_entry.Entry → Entry
entry_of e = record { of_collection = e.of_collection; name = e.name; body = body_of e.parts.items }

-- The whole answer is what reading the items to their end gives.
abbrev pub GivesAll : Result (Vec declared_entry.Entry) (Halt Item) → Outcome Item (List Entry) → Type 0
GivesAll (Ok v) read = read ≡ Read (map entry_of v.items) []
GivesAll (Err e) read = Fails e read

-- both name a collection, or neither does
abbrev pub same_sort : Bool → Bool → Bool
same_sort true b = b
same_sort false b = if b then false else true

-- the names of a sort, each with the number of its template; the first of these templates has the number `n`
abbrev pub named_from : Bool → ℕ → List Entry → List Named
named_from sort n [] = []
named_from sort n (e ∷ entries) =
    if same_sort e.of_collection sort then record {
      name = e.name;
      number = n;
    } ∷ named_from sort (n + 1) entries else named_from sort (n + 1) entries

-- the templates are numbered in the order of the file
abbrev pub file_from : List Entry → TemplateFile
file_from entries = record {
  bodies = map (λ e. e.body) entries;
  functions = named_from false 0 entries;
  collections = named_from true 0 entries;
}

-- The items of each of these are a template.
abbrev pub AreRead : List (List Item) → List Entry → Type 0
AreRead [] [] = Unit {0}
AreRead (t ∷ templates) (e ∷ entries) =
    template (body expr 32 []) t e × AreRead templates entries
AreRead templates entries = ⊥

-- the templates that the reader found, if each of these is one
abbrev pub AreEntries : List (List Item) → Option (Vec declared_entry.Entry) → Type 0
AreEntries templates None = (entries : List Entry) → AreRead templates entries → ⊥
AreEntries templates (Some v) = AreRead templates (map entry_of v.items)
