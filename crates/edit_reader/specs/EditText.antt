-- The grammar of edits: which tokens spell which edit.
--
--   edit := "edit" ( "add" name name value | "remove" name name value | "enter" name name | "leave" name name )
--
-- The first name is the node, and the second the label or the collection. Names and values are those of a data text; a
-- quoted value without a kind is a text.
use Rattle.std.specs.Prelude.{ℕ, List, codes}
use Rattle.sd_value.specs.declared.Datum.TheVariants as datum
use Rattle.sd_value.specs.declared.Value.{Value}
use Rattle.sd_value.specs.declared.Value.TheVariants.{Data}
use Rattle.sd_lex.specs.declared.token.Token.{Token}
use Rattle.graph_spec.specs.declared.Edge.{Edge}
use Rattle.graph_spec.specs.declared.Member.{Member}
use Rattle.grammar.specs.Grammar.{nothing, ◌>>=◌, ◌>>◌, either}
use Rattle.token_reader.specs.declared.reading.Word.{Word}
use Rattle.token_reader.specs.Terminals.{name, word}
use Rattle.ddl_text.specs.declared.tree.Content.{Content}
use Rattle.ddl_text.specs.declared.tree.Content.TheVariants as content
use Rattle.ddl_text.specs.declared.tree.Kind.{Kind}
use Rattle.ddl_text.specs.declared.tree.Kind.TheVariants as kind
use Rattle.ddl_text.specs.declared.tree.Field.{Field}
use Rattle.ddl_text.specs.DataText.{field}
use Rattle.edit_spec.specs.declared.Edit.{Edit}
use Rattle.edit_spec.specs.declared.Edit.TheVariants.{Add, Remove, Enter, Leave}

-- a text of a kind, as a value
abbrev pub kinded_value : Kind → List ℕ → Value
kinded_value kind.Text t = Data (datum.Text t)
kinded_value kind.Url t = Data (datum.Url t)
kinded_value kind.File t = Data (datum.File t)

-- the value that is written
abbrev pub value_of : Content → Value
value_of (content.Number n) = Data (datum.Int n)
value_of (content.Plain t) = Data (datum.Text t)
value_of (content.Kinded k t) = kinded_value k t
value_of (content.Node n) = Data (datum.Node n)

-- the edge of a node, and of a label and an end that are written as an attribute and its value
abbrev pub edge_of : Word → Field → Edge
edge_of from f = record { from = from.text; label = f.name.text; to = value_of f.value.content }

-- the node in the collection
abbrev pub member_of : Word → Word → Member
member_of n collection = record { collection = collection.text; node = n.text }

-- an edge more
abbrev pub adding : List Token → Edit → Type 0
adding = do
  word (codes "add")
  from ← name
  f ← field
  nothing (Add (edge_of from f))

-- an edge less
abbrev pub removing : List Token → Edit → Type 0
removing = do
  word (codes "remove")
  from ← name
  f ← field
  nothing (Remove (edge_of from f))

-- a member more
abbrev pub entering : List Token → Edit → Type 0
entering = do
  word (codes "enter")
  n ← name
  collection ← name
  nothing (Enter (member_of n collection))

-- a member less
abbrev pub leaving : List Token → Edit → Type 0
leaving = do
  word (codes "leave")
  n ← name
  collection ← name
  nothing (Leave (member_of n collection))

-- what is to be done
abbrev pub action : List Token → Edit → Type 0
action = either adding (either removing (either entering leaving))

-- an edit
abbrev pub edit : List Token → Edit → Type 0
edit = do
  word (codes "edit")
  action
