-- Reading edits from left to right: one function for each part of the grammar.
use Rattle.std.specs.Prelude.{List, codes}
use Rattle.sd_lex.specs.declared.token.Token.{Token}
use Rattle.grammar.specs.Reading.{Outcome, ◌>>=◌, ◌>>◌, give, finish, choose}
use Rattle.token_reader.specs.Terminals.{is_word, read_name, read_word}
use Rattle.ddl_text.specs.Reading.{read_field}
use Rattle.edit_spec.specs.declared.Edit.{Edit}
use Rattle.edit_spec.specs.declared.Edit.TheVariants.{Add, Remove, Enter, Leave}
use Rattle.edit_reader.specs.EditText.{edge_of, member_of}

unfoldable pub read_adding : List Token → Outcome Token Edit
read_adding = do
  read_word (codes "add")
  from ← read_name
  f ← read_field
  give (Add (edge_of from f))

unfoldable pub read_removing : List Token → Outcome Token Edit
read_removing = do
  read_word (codes "remove")
  from ← read_name
  f ← read_field
  give (Remove (edge_of from f))

unfoldable pub read_entering : List Token → Outcome Token Edit
read_entering = do
  read_word (codes "enter")
  n ← read_name
  collection ← read_name
  give (Enter (member_of n collection))

unfoldable pub read_leaving : List Token → Outcome Token Edit
read_leaving = do
  read_word (codes "leave")
  n ← read_name
  collection ← read_name
  give (Leave (member_of n collection))

unfoldable pub read_action : List Token → Outcome Token Edit
read_action =
    choose (is_word (codes "add")) read_adding
    (choose (is_word (codes "remove")) read_removing
    (choose (is_word (codes "enter")) read_entering read_leaving))

unfoldable pub read_phrase : List Token → Outcome Token Edit
read_phrase = do
  read_word (codes "edit")
  read_action

unfoldable pub read_whole : List Token → Outcome Token Edit
read_whole = do
  e ← read_phrase
  finish e
