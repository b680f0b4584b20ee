-- Each part of an ORDER with its reader.
use Rattle.std.proofs.Common.{◌≡◌, ℕ, Bool, true, false, List, [], ◌∷◌, ◌++◌, refl, sym, ap, ◌∙◌, subst, inl, inr}
use Rattle.std.specs.Prelude.{codes, ◌||◌, nat_eq, pos}
use Rattle.sd_lex.specs.declared.token.Token.{Token}
use Rattle.sd_lex.specs.declared.token.TokenKind.TheVariants as kinds
use Rattle.sd_lex.specs.declared.token.Sign.{Sign}
use Rattle.sd_lex.specs.declared.token.Sign.TheVariants as signs
use Rattle.grammar.specs.Grammar as grammar
use Rattle.grammar.specs.Grammar.{nothing, one, either}
use Rattle.grammar.specs.Reading.{take_one}
use Rattle.grammar.proofs.Laws.{Always, Stops}
use Rattle.grammar.proofs.Parts.{Part, Opens, ◌>>=◌, give_part, one_part, then_part, then_opens, stop_then, weaken_part, either_part, many_part, opens_then, opens_either}
use Rattle.order_spec.specs.Order as plan
use Rattle.order_spec.specs.Order.{Order}
use Rattle.token_reader.specs.Gives.{IsReal}
use Rattle.token_reader.specs.Terminals.{is_sign, is_word, sign, word}
use Rattle.token_reader.proofs.Terminals.{made, sign_part, sign_opens, word_part, word_opens, quoted_part, sign_no_word, other_sign, other_word}
use Rattle.struql_text.specs.declared.keyword.Keyword.{Keyword}
use Rattle.struql_text.specs.declared.keyword.Keyword.TheVariants as words
use Rattle.struql_text.specs.Terminals.{is_keyword, is_found, keyword_of}
use Rattle.struql_text.specs.Expression.{keyword}
use Rattle.struql_text.specs.Reading.{read_keyword}
use Rattle.struql_text.proofs.TokenParts.{keyword_part, keyword_opens, keyword_no_sign, other_keyword, sign_no_keyword, collection_part}
use Rattle.struql_text.proofs.TermParts.{maybe_part}
use Rattle.struql_orders.specs.Terminals.{count_value, begins_place}
use Rattle.struql_orders.specs.Grammar.{label, further_label, labels, given, flag, position, next, previous, page, place, order, orders_where, orders}
use Rattle.struql_orders.specs.Reading.{read_label, read_further_label, read_labels, read_flag, read_position, read_next, read_previous, read_page, read_place, read_order, read_where, read_orders}

-- ---- labels

label_part : Part IsReal label label Always read_label
unfolding read_label
label_part = do
  l ← collection_part 3
  give_part l.text

pub further_label_part : Part IsReal further_label further_label Always read_further_label
unfolding read_further_label
further_label_part = do
  _ ← sign_part signs.Dot
  label_part

pub further_label_opens : Opens further_label (λ t. is_sign signs.Dot t ≡ true)
further_label_opens = opens_then (sign signs.Dot) _ _ (sign_opens signs.Dot _ (λ t e. e))

labels_part : Part IsReal labels labels (Stops (is_sign signs.Dot)) read_labels
unfolding read_labels
labels_part = do
  first ← label_part
  then_part (many_part (is_sign signs.Dot) further_label_part further_label_opens)
      (λ others. weaken_part _ (λ _ _. tt) (give_part (first ∷ others)))
      (λ v y w rest h f. subst (λ x. Stops (is_sign signs.Dot) (x ++ rest)) (sym h.0) f)

-- ---- keywords

is_order : is_found words.Order (keyword_of (codes "ORDER")) ≡ true
unfolding keyword_of
is_order = refl

is_by : is_found words.By (keyword_of (codes "BY")) ≡ true
unfolding keyword_of
is_by = refl

is_of : is_found words.Of (keyword_of (codes "OF")) ≡ true
unfolding keyword_of
is_of = refl

is_fold : is_found words.Fold (keyword_of (codes "FOLD")) ≡ true
unfolding keyword_of
is_fold = refl

is_descend : is_found words.Descend (keyword_of (codes "DESCEND")) ≡ true
unfolding keyword_of
is_descend = refl

order_word : Part IsReal (keyword words.Order) (keyword words.Order) Always (read_keyword words.Order)
order_word = keyword_part words.Order (codes "ORDER") is_order (refl, (refl, (refl, (refl, (refl, tt)))))

by_word : Part IsReal (keyword words.By) (keyword words.By) Always (read_keyword words.By)
by_word = keyword_part words.By (codes "BY") is_by (refl, (refl, tt))

of_word : Part IsReal (keyword words.Of) (keyword words.Of) Always (read_keyword words.Of)
of_word = keyword_part words.Of (codes "OF") is_of (refl, (refl, tt))

fold_word : Part IsReal (keyword words.Fold) (keyword words.Fold) Always (read_keyword words.Fold)
fold_word = keyword_part words.Fold (codes "FOLD") is_fold (refl, (refl, (refl, (refl, tt))))

descend_word : Part IsReal (keyword words.Descend) (keyword words.Descend) Always (read_keyword words.Descend)
descend_word = keyword_part words.Descend (codes "DESCEND") is_descend (refl, (refl, (refl, (refl, (refl, (refl, (refl, tt)))))))

given_opens : (k : Keyword) (W : Token → Type 0) → ((t : Token) → is_keyword k t ≡ true → W t) → Opens (given k) W
given_opens k W known = opens_then (keyword k) _ W (keyword_opens k W known)

flag_part : (k : Keyword) → Part IsReal (keyword k) (keyword k) Always (read_keyword k) → Part IsReal (flag k) (flag k) (Stops (is_keyword k)) (read_flag k)
unfolding read_flag
flag_part k word =
    maybe_part (is_keyword k) false
    (weaken_part (Stops (is_keyword k)) (λ _ _. tt) (word >>= λ place. give_part true))
    (given_opens k _ (λ t e. e))
    (λ rest f. f)

-- what a keyword that may be left out, and what comes after it, open with
flag_opens : {A : Type 0} (k : Keyword) (Q : Bool → List Token → A → Type 0) (W : Token → Type 0) → ((t : Token) → is_keyword k t ≡ true → W t)
    → ((b : Bool) → Opens (Q b) W) → Opens (grammar.◌>>=◌ (flag k) Q) W
flag_opens k Q W known later x v h = by h.4
  where
    by : flag k h.0 h.2 → (t : Token) × (rest : List Token) × (x ≡ t ∷ rest) × W t
    by (inl c) =
        let o = given_opens k W known h.0 h.2 c in
        (o.0, o.1 ++ h.1, h.3 ∙ ap (λ y. y ++ h.1) o.2, o.3)
    by (inr n) =
        let o = later h.2 h.1 v h.5 in
        (o.0, o.1, h.3 ∙ ap (λ y. y ++ h.1) n.0 ∙ o.2, o.3)

-- ---- places

count_part : Part IsReal (one count_value) (one count_value) Always (take_one true count_value)
count_part = one_part count_value (made (kinds.Int (pos 1))) 1 refl (49 ∷ [], (inl (refl, tt), refl))

position_part : Part IsReal position position Always read_position
unfolding read_position
position_part = do
  _ ← word_part (codes "position") (refl, (refl, (refl, (refl, (refl, (refl, (refl, (refl, tt))))))))
  l ← quoted_part
  give_part (plan.position l.text)

next_part : Part IsReal next next Always read_next
unfolding read_next
next_part = do
  _ ← word_part (codes "next") (refl, (refl, (refl, (refl, tt))))
  l ← quoted_part
  give_part (plan.next l.text)

previous_part : Part IsReal previous previous Always read_previous
unfolding read_previous
previous_part = do
  _ ← word_part (codes "previous") (refl, (refl, (refl, (refl, (refl, (refl, (refl, (refl, tt))))))))
  l ← quoted_part
  give_part (plan.previous l.text)

page_part : Part IsReal page page Always read_page
unfolding read_page
page_part = do
  _ ← word_part (codes "page") (refl, (refl, (refl, (refl, tt))))
  l ← quoted_part
  _ ← of_word
  n ← count_part
  give_part (plan.page l.text n)

position_opens : (W : Token → Type 0) → ((t : Token) → is_word (codes "position") t ≡ true → W t) → Opens position W
position_opens W known = opens_then (word (codes "position")) _ W (word_opens (codes "position") W known)

next_opens : (W : Token → Type 0) → ((t : Token) → is_word (codes "next") t ≡ true → W t) → Opens next W
next_opens W known = opens_then (word (codes "next")) _ W (word_opens (codes "next") W known)

previous_opens : (W : Token → Type 0) → ((t : Token) → is_word (codes "previous") t ≡ true → W t) → Opens previous W
previous_opens W known = opens_then (word (codes "previous")) _ W (word_opens (codes "previous") W known)

page_opens : (W : Token → Type 0) → ((t : Token) → is_word (codes "page") t ≡ true → W t) → Opens page W
page_opens W known = opens_then (word (codes "page")) _ W (word_opens (codes "page") W known)

pub place_part : Part IsReal place place Always read_place
unfolding read_place
place_part =
    either_part (is_word (codes "position")) position_part
    (either_part (is_word (codes "next")) next_part
    (either_part (is_word (codes "previous")) previous_part page_part
    (previous_opens _ (λ t e. e))
    (page_opens _ (λ t. other_word (codes "page") (codes "previous") t.kind refl)))
    (next_opens _ (λ t e. e))
    (opens_either previous page _
    (previous_opens _ (λ t. other_word (codes "previous") (codes "next") t.kind refl))
    (page_opens _ (λ t. other_word (codes "page") (codes "next") t.kind refl))))
    (position_opens _ (λ t e. e))
    (opens_either next (either previous page) _
    (next_opens _ (λ t. other_word (codes "next") (codes "position") t.kind refl))
    (opens_either previous page _
    (previous_opens _ (λ t. other_word (codes "previous") (codes "position") t.kind refl))
    (page_opens _ (λ t. other_word (codes "page") (codes "position") t.kind refl))))

or_left : (a b : Bool) → a ≡ true → (a || b) ≡ true
or_left a b e = rw e refl

or_right : (a b : Bool) → b ≡ true → (a || b) ≡ true
or_right true b e = refl
or_right false b e = e

neither : (a b : Bool) → a ≡ false → b ≡ false → (a || b) ≡ false
neither a b e f = rw e f

abbrev from_previous : Token → Bool
from_previous t = is_word (codes "previous") t || is_word (codes "page") t

abbrev from_next : Token → Bool
from_next t = is_word (codes "next") t || from_previous t

pub place_opens : Opens place (λ t. begins_place t ≡ true)
place_opens =
    opens_either position (either next (either previous page)) _
    (position_opens _ (λ t. or_left (is_word (codes "position") t) (from_next t)))
    (opens_either next (either previous page) _
    (next_opens _ (λ t e. or_right (is_word (codes "position") t) (from_next t) (or_left (is_word (codes "next") t) (from_previous t) e)))
    (opens_either previous page _
    (previous_opens _ (λ t e. or_right (is_word (codes "position") t) (from_next t) (or_right (is_word (codes "next") t) (from_previous t) (or_left (is_word (codes "previous") t) (is_word (codes "page") t) e))))
    (page_opens _ (λ t e. or_right (is_word (codes "position") t) (from_next t) (or_right (is_word (codes "next") t) (from_previous t) (or_right (is_word (codes "previous") t) (is_word (codes "page") t) e))))))

sign_no_place : (s : Sign) (t : Token) → is_sign s t ≡ true → begins_place t ≡ false
sign_no_place s t e =
    neither (is_word (codes "position") t) (from_next t) (sign_no_word s (codes "position") t.kind e)
    (neither (is_word (codes "next") t) (from_previous t) (sign_no_word s (codes "next") t.kind e)
    (neither (is_word (codes "previous") t) (is_word (codes "page") t) (sign_no_word s (codes "previous") t.kind e) (sign_no_word s (codes "page") t.kind e)))

-- ---- ORDERs

pub order_part : Part IsReal order order Always read_order
unfolding read_order
order_part = do
  _ ← order_word
  c ← collection_part 3
  _ ← by_word
  stop_then (is_sign signs.Dot) labels_part
      (λ w. then_opens (λ t. is_keyword words.Fold t ≡ false) (flag_part words.Fold fold_word)
      (λ f. then_opens (λ t. is_keyword words.Descend t ≡ false) (flag_part words.Descend descend_word)
      (λ d. do
        _ ← sign_part signs.OpenBrace
        stop_then begins_place (many_part begins_place place_part place_opens)
            (λ ps. do
              _ ← sign_part signs.CloseBrace
              give_part (record { collection = c.text; word = w; fold = f; descend = d; places = ps }))
            (λ ps. opens_then (sign signs.CloseBrace) _ _ (sign_opens signs.CloseBrace _ (sign_no_place signs.CloseBrace))))
      (λ d. opens_then (sign signs.OpenBrace) _ _ (sign_opens signs.OpenBrace _ (λ t. sign_no_keyword signs.OpenBrace words.Descend t.kind)))
      (λ t later is. is))
      (λ f. flag_opens words.Descend _ _ (λ t. other_keyword words.Descend words.Fold t.kind refl)
      (λ d. opens_then (sign signs.OpenBrace) _ _ (sign_opens signs.OpenBrace _ (λ t. sign_no_keyword signs.OpenBrace words.Fold t.kind))))
      (λ t later is. is))
      (λ w. flag_opens words.Fold _ _ (λ t. keyword_no_sign words.Fold signs.Dot t.kind)
      (λ f. flag_opens words.Descend _ _ (λ t. keyword_no_sign words.Descend signs.Dot t.kind)
      (λ d. opens_then (sign signs.OpenBrace) _ _ (sign_opens signs.OpenBrace _ (λ t. other_sign signs.OpenBrace signs.Dot t.kind refl)))))

pub order_opens : Opens order (λ t. is_keyword words.Order t ≡ true)
order_opens = opens_then (keyword words.Order) _ _ (keyword_opens words.Order _ (λ t e. e))

orders_where_part : (b : Bool) → Part IsReal (orders_where b) (orders_where b) (Stops (is_keyword words.Order)) (read_where b)
orders_where_part true = many_part (is_keyword words.Order) order_part order_opens
orders_where_part false = weaken_part (Stops (is_keyword words.Order)) (λ _ _. tt) (give_part [])

-- no further ORDER stands behind the ORDERs of a query
pub orders_part : (version : ℕ) → Part IsReal (orders version) (orders version) (Stops (is_keyword words.Order)) (read_orders version)
unfolding read_orders
orders_part version = orders_where_part (nat_eq version 3)
