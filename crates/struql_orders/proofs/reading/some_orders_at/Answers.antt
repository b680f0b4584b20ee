use Rattle.std.proofs.Common.{◌≡◌, true, [], ◌∷◌, sym, ◌∙◌}
use Rattle.std.specs.Prelude.{map}
use Rattle.std.proofs.lemmas.List.{map-append}
use Rattle.std.proofs.lemmas.Result.{err_from_is_err_and}
use Rattle.grammar.specs.Reading.{starts, repeat}
use Rattle.grammar.proofs.RepeatLoop.{shrinks, goes_on, done}
use Rattle.order_spec.specs.Read.{order_of}
use Rattle.token_reader.proofs.Ends.{ends}
use Rattle.struql_text.specs.declared.keyword.Keyword.TheVariants as words
use Rattle.struql_text.specs.Terminals.{is_keyword}
use Rattle.struql_orders.specs.Reading.{read_order}
use Rattle.struql_orders.proofs.Parts.{order_part, order_opens}
use Rattle.struql_orders.proofs.reading.some_orders_at.Goals as goal

pub returns-in_err-order : goal.returns-in_err-order
returns-in_err-order c =
    let p = err_from_is_err_and c.from_residual.result c.from_residual.ensures.1 in
    let is : starts (is_keyword words.Order) c.orders.rest.now ≡ true = sym c.has_keyword.ensures ∙ c.orders-test.true in
    rw (p.1, p.2) (ends (is_keyword words.Order) order_part order_opens c.in_err-order.field-0.0 (map order_of c.orders.orders.items) c.orders.rest.now (repeat (is_keyword words.Order) read_order c.args.tokens.now) is c.in_err-order.ensures c.orders.invariant)

pub orders-smaller : goal.orders-smaller
orders-smaller c =
    let is : starts (is_keyword words.Order) c.orders.rest.now ≡ true = sym c.has_keyword.ensures ∙ c.orders-test.true in
    shrinks (is_keyword words.Order) order_part order_opens c.orders.rest.now (order_of c.in_ok-order.order) c.in_ok-order.after.now is c.in_ok-order.ensures

pub orders-preserved : goal.orders-preserved
orders-preserved c =
    let is : starts (is_keyword words.Order) c.orders.rest.now ≡ true = sym c.has_keyword.ensures ∙ c.orders-test.true in
    let more = goes_on (is_keyword words.Order) order_part order_opens (map order_of c.orders.orders.items) c.orders.rest.now (order_of c.in_ok-order.order) c.in_ok-order.after.now (repeat (is_keyword words.Order) read_order c.args.tokens.now) is c.in_ok-order.ensures c.orders.invariant in
    rw (c.in_ok-push.ensures.items, map-append order_of c.orders.orders.items (c.in_ok-order.order ∷ [])) more

pub returns : goal.returns
returns c = done (is_keyword words.Order) order_part order_opens (map order_of c.orders.orders.items) c.orders.rest.now (repeat (is_keyword words.Order) read_order c.args.tokens.now) (sym c.has_keyword.ensures ∙ c.orders-test.false) c.orders.invariant
