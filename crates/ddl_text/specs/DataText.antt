-- The grammar of the data text: which tokens spell which statements.
--
--   file      := { directive | object }
--   directive := "collection" name "{" { name kind } "}"
--   object    := "object" name [ "in" name { "," name } ] "{" { name value } "}"
--   kind      := "text" | "url" | "file"
--   value     := Int | Quoted | kind Quoted | "&" name
use Rattle.std.specs.Prelude.{List, [], ◌∷◌, codes}
use Rattle.sd_lex.specs.declared.token.Token.{Token}
use Rattle.sd_lex.specs.declared.token.Sign.TheVariants as signs
use Rattle.grammar.specs.Grammar.{nothing, one, ◌>>=◌, ◌>>◌, either, many}
use Rattle.token_reader.specs.declared.reading.Word.{Word}
use Rattle.ddl_text.specs.declared.tree.Entry.{Entry}
use Rattle.ddl_text.specs.declared.tree.Given.{Given}
use Rattle.ddl_text.specs.declared.tree.Content.TheVariants.{Kinded, Node}
use Rattle.ddl_text.specs.declared.tree.Field.{Field}
use Rattle.ddl_text.specs.declared.tree.Statement.{Statement}
use Rattle.ddl_text.specs.declared.tree.Statement.TheVariants.{Collection, Object}
use Rattle.token_reader.specs.Terminals.{name, quoted, sign, word}
use Rattle.ddl_text.specs.Terminals.{kind_value, plain_value}

abbrev pub entry : List Token → Entry → Type 0
entry = do
  n ← name
  k ← one kind_value
  nothing (record { name = n; kind = k })

abbrev pub directive : List Token → Statement → Type 0
directive = do
  word (codes "collection")
  collection ← name
  sign signs.OpenBrace
  entries ← many entry
  sign signs.CloseBrace
  nothing (Collection collection entries)

abbrev pub kinded : List Token → Given → Type 0
kinded = do
  k ← one kind_value
  text ← quoted
  nothing (record { content = Kinded k.kind text.text; place = k.place })

abbrev pub node : List Token → Given → Type 0
node = do
  place ← sign signs.Amp
  n ← name
  nothing (record { content = Node n.text; place = place })

abbrev pub value : List Token → Given → Type 0
value = either (one plain_value) (either node kinded)

abbrev pub field : List Token → Field → Type 0
field = do
  n ← name
  v ← value
  nothing (record { name = n; value = v })

abbrev pub further_name : List Token → Word → Type 0
further_name = do
  sign signs.Comma
  name

abbrev pub collections : List Token → List Word → Type 0
collections = do
  word (codes "in")
  first ← name
  others ← many further_name
  nothing (first ∷ others)

abbrev pub object : List Token → Statement → Type 0
object = do
  word (codes "object")
  n ← name
  cs ← either collections (nothing [])
  sign signs.OpenBrace
  fields ← many field
  sign signs.CloseBrace
  nothing (Object n cs fields)

abbrev pub statement : List Token → Statement → Type 0
statement = either directive object

abbrev pub file : List Token → List Statement → Type 0
file = many statement
