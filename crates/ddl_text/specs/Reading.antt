-- Reading the data text from left to right: one function for each part of the grammar.
use Rattle.std.specs.Prelude.{Bool, true, ◌||◌, List, [], ◌∷◌, codes}
use Rattle.sd_lex.specs.declared.token.Token.{Token}
use Rattle.sd_lex.specs.declared.token.Sign.TheVariants as signs
use Rattle.grammar.specs.Reading.{Outcome, ◌>>=◌, ◌>>◌, give, finish, take_one, choose, repeat}
use Rattle.token_reader.specs.declared.reading.Word.{Word}
use Rattle.ddl_text.specs.declared.tree.Entry.{Entry}
use Rattle.ddl_text.specs.declared.tree.Given.{Given}
use Rattle.ddl_text.specs.declared.tree.Content.TheVariants.{Kinded, Node}
use Rattle.ddl_text.specs.declared.tree.Field.{Field}
use Rattle.ddl_text.specs.declared.tree.Statement.{Statement}
use Rattle.ddl_text.specs.declared.tree.Statement.TheVariants.{Collection, Object}
use Rattle.token_reader.specs.Terminals.{is_name, is_sign, is_word, read_name, read_quoted, read_sign, read_word}
use Rattle.ddl_text.specs.Terminals.{kind_value, plain_value, is_plain}

unfoldable pub read_entry : List Token → Outcome Token Entry
read_entry = do
  n ← read_name
  k ← take_one true kind_value
  give (record { name = n; kind = k })

unfoldable pub read_directive : List Token → Outcome Token Statement
read_directive = do
  read_word (codes "collection")
  collection ← read_name
  read_sign signs.OpenBrace
  entries ← repeat is_name read_entry
  read_sign signs.CloseBrace
  give (Collection collection entries)

unfoldable pub read_kinded : List Token → Outcome Token Given
read_kinded = do
  k ← take_one true kind_value
  text ← read_quoted
  give (record { content = Kinded k.kind text.text; place = k.place })

unfoldable pub read_node : List Token → Outcome Token Given
read_node = do
  place ← read_sign signs.Amp
  n ← read_name
  give (record { content = Node n.text; place = place })

unfoldable pub read_value : List Token → Outcome Token Given
read_value =
    choose is_plain (take_one true plain_value) (choose (is_sign signs.Amp) read_node read_kinded)

unfoldable pub read_field : List Token → Outcome Token Field
read_field = do
  n ← read_name
  v ← read_value
  give (record { name = n; value = v })

unfoldable pub read_further_name : List Token → Outcome Token Word
read_further_name = do
  read_sign signs.Comma
  read_name

unfoldable pub read_collections : List Token → Outcome Token (List Word)
read_collections = do
  read_word (codes "in")
  first ← read_name
  others ← repeat (is_sign signs.Comma) read_further_name
  give (first ∷ others)

unfoldable pub read_in : List Token → Outcome Token (List Word)
read_in = choose (is_word (codes "in")) read_collections (give [])

unfoldable pub read_object : List Token → Outcome Token Statement
read_object = do
  read_word (codes "object")
  n ← read_name
  cs ← read_in
  read_sign signs.OpenBrace
  fields ← repeat is_name read_field
  read_sign signs.CloseBrace
  give (Object n cs fields)

unfoldable pub read_statement : List Token → Outcome Token Statement
read_statement = choose (is_word (codes "collection")) read_directive read_object

abbrev pub begins_statement : Token → Bool
begins_statement t = is_word (codes "collection") t || is_word (codes "object") t

unfoldable pub read_file : List Token → Outcome Token (List Statement)
read_file = do
  statements ← repeat begins_statement read_statement
  finish statements
