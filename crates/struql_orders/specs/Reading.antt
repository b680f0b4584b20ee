-- Reading ORDERs from left to right.
use Rattle.std.specs.Prelude.{ℕ, Bool, true, false, List, [], ◌∷◌, nat_eq, codes}
use Rattle.sd_lex.specs.declared.token.Token.{Token}
use Rattle.sd_lex.specs.declared.token.Sign.TheVariants as signs
use Rattle.sd_value.specs.Names.{Label, Word}
use Rattle.grammar.specs.Reading.{Outcome, ◌>>=◌, ◌>>◌, give, take_one, choose, repeat}
use Rattle.order_spec.specs.Order as plan
use Rattle.order_spec.specs.Order.{Place, Order}
use Rattle.struql_text.specs.declared.keyword.Keyword.{Keyword}
use Rattle.struql_text.specs.declared.keyword.Keyword.TheVariants as words
use Rattle.struql_text.specs.Terminals.{is_keyword}
use Rattle.struql_text.specs.Reading.{read_keyword, read_collection}
use Rattle.token_reader.specs.Terminals.{is_sign, is_word, read_sign, read_word, read_quoted}
use Rattle.struql_orders.specs.Terminals.{count_value, begins_place}

unfoldable pub read_label : List Token → Outcome Token Label
read_label = do
  l ← read_collection 3
  give l.text

unfoldable pub read_further_label : List Token → Outcome Token Label
read_further_label = do
  read_sign signs.Dot
  read_label

unfoldable pub read_labels : List Token → Outcome Token Word
read_labels = do
  first ← read_label
  others ← repeat (is_sign signs.Dot) read_further_label
  give (first ∷ others)

abbrev pub read_given : Keyword → List Token → Outcome Token Bool
read_given k = do
  read_keyword k
  give true

unfoldable pub read_flag : Keyword → List Token → Outcome Token Bool
read_flag k = choose (is_keyword k) (read_given k) (give false)

unfoldable pub read_position : List Token → Outcome Token Place
read_position = do
  read_word (codes "position")
  l ← read_quoted
  give (plan.position l.text)

unfoldable pub read_next : List Token → Outcome Token Place
read_next = do
  read_word (codes "next")
  l ← read_quoted
  give (plan.next l.text)

unfoldable pub read_previous : List Token → Outcome Token Place
read_previous = do
  read_word (codes "previous")
  l ← read_quoted
  give (plan.previous l.text)

unfoldable pub read_page : List Token → Outcome Token Place
read_page = do
  read_word (codes "page")
  l ← read_quoted
  read_keyword words.Of
  n ← take_one true count_value
  give (plan.page l.text n)

unfoldable pub read_place : List Token → Outcome Token Place
read_place =
    choose (is_word (codes "position")) read_position
    (choose (is_word (codes "next")) read_next
    (choose (is_word (codes "previous")) read_previous read_page))

unfoldable pub read_order : List Token → Outcome Token Order
read_order = do
  read_keyword words.Order
  c ← read_collection 3
  read_keyword words.By
  w ← read_labels
  f ← read_flag words.Fold
  d ← read_flag words.Descend
  read_sign signs.OpenBrace
  ps ← repeat begins_place read_place
  read_sign signs.CloseBrace
  give (record { collection = c.text; word = w; fold = f; descend = d; places = ps })

abbrev pub read_where : Bool → List Token → Outcome Token (List Order)
read_where true = repeat (is_keyword words.Order) read_order
read_where false = give []

unfoldable pub read_orders : ℕ → List Token → Outcome Token (List Order)
read_orders version = read_where (nat_eq version 3)
