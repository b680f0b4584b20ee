-- The grammar of ORDERs, which version 3 has.
--
--   order := "ORDER" collection "BY" label { "." label } [ "FOLD" ] [ "DESCEND" ] "{" { place } "}"
--   place := ( "position" | "next" | "previous" ) Quoted | "page" Quoted "OF" Int, which is from 1 on
--
-- A label is a name or a quoted text, as a collection is.
use Rattle.std.specs.Prelude.{ℕ, Bool, true, false, List, [], ◌∷◌, nat_eq, codes}
use Rattle.sd_lex.specs.declared.token.Token.{Token}
use Rattle.sd_lex.specs.declared.token.Sign.TheVariants as signs
use Rattle.sd_value.specs.Names.{Label, Word}
use Rattle.grammar.specs.Grammar.{nothing, one, ◌>>=◌, ◌>>◌, either, many}
use Rattle.order_spec.specs.Order as plan
use Rattle.order_spec.specs.Order.{Place, Order}
use Rattle.struql_text.specs.declared.keyword.Keyword.{Keyword}
use Rattle.struql_text.specs.declared.keyword.Keyword.TheVariants as words
use Rattle.struql_text.specs.Expression.{keyword}
use Rattle.struql_text.specs.Grammar.{collection}
use Rattle.token_reader.specs.Terminals.{sign, word, quoted}
use Rattle.struql_orders.specs.Terminals.{count_value}

-- a label
abbrev pub label : List Token → Label → Type 0
label = do
  l ← collection 3
  nothing l.text

-- a dot and one more label
abbrev pub further_label : List Token → Label → Type 0
further_label = do
  sign signs.Dot
  label

-- one label or more
abbrev pub labels : List Token → Word → Type 0
labels = do
  first ← label
  others ← many further_label
  nothing (first ∷ others)

-- a keyword alone
abbrev pub given : Keyword → List Token → Bool → Type 0
given k = do
  keyword k
  nothing true

-- whether a keyword is given
abbrev pub flag : Keyword → List Token → Bool → Type 0
flag k = either (given k) (nothing false)

-- the places

abbrev pub position : List Token → Place → Type 0
position = do
  word (codes "position")
  l ← quoted
  nothing (plan.position l.text)

abbrev pub next : List Token → Place → Type 0
next = do
  word (codes "next")
  l ← quoted
  nothing (plan.next l.text)

abbrev pub previous : List Token → Place → Type 0
previous = do
  word (codes "previous")
  l ← quoted
  nothing (plan.previous l.text)

abbrev pub page : List Token → Place → Type 0
page = do
  word (codes "page")
  l ← quoted
  keyword words.Of
  n ← one count_value
  nothing (plan.page l.text n)

abbrev pub place : List Token → Place → Type 0
place = either position (either next (either previous page))

-- an ORDER
abbrev pub order : List Token → Order → Type 0
order = do
  keyword words.Order
  c ← collection 3
  keyword words.By
  w ← labels
  f ← flag words.Fold
  d ← flag words.Descend
  sign signs.OpenBrace
  ps ← many place
  sign signs.CloseBrace
  nothing (record { collection = c.text; word = w; fold = f; descend = d; places = ps })

-- ORDERs, if there may be some
abbrev pub orders_where : Bool → List Token → List Order → Type 0
orders_where true = many order
orders_where false = nothing []

-- those of a query of a version
abbrev pub orders : ℕ → List Token → List Order → Type 0
orders version = orders_where (nat_eq version 3)
