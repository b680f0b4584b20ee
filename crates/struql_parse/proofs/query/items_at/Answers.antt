use Rattle.std.proofs.Common.{sym, ◌∙◌}
use Rattle.std.proofs.lemmas.Result.{err_from_is_err_and}
use Rattle.grammar.proofs.Loop.{goes_on, is_done}
use Rattle.struql_parse.specs.Found.{groups_found}
use Rattle.struql_parse.specs.Reading.{begins_item, read_item_step}
use Rattle.struql_text.proofs.Loops.{ends}
use Rattle.struql_parse.proofs.QueryParts.{items_shrink}
use Rattle.struql_parse.proofs.query.items_at.Goals as goal

pub returns-in_err-more : goal.returns-in_err-more
returns-in_err-more c =
    let p = err_from_is_err_and c.from_residual.result c.from_residual.ensures.1 in
    rw (p.1, p.2) (ends begins_item (read_item_step c.args.version) (items_shrink c.args.version) c.in_err-more.field-0.0 (groups_found c.list.groups) c.list.rest.now _ (sym c.has_item.ensures ∙ c.list-test.true) c.in_err-more.ensures c.list.invariant)

pub list-smaller : goal.list-smaller
list-smaller c = items_shrink c.args.version (groups_found c.list.groups) c.list.rest.now (groups_found c.in_ok-more.more) c.in_ok-more.after.now (sym c.has_item.ensures ∙ c.list-test.true) c.in_ok-more.ensures

pub list-preserved : goal.list-preserved
list-preserved c = goes_on begins_item (read_item_step c.args.version) (items_shrink c.args.version) (groups_found c.list.groups) c.list.rest.now (groups_found c.in_ok-more.more) c.in_ok-more.after.now _ (sym c.has_item.ensures ∙ c.list-test.true) c.in_ok-more.ensures c.list.invariant

pub returns : goal.returns
returns c = is_done begins_item (read_item_step c.args.version) (items_shrink c.args.version) (groups_found c.list.groups) c.list.rest.now _ (sym c.has_item.ensures ∙ c.list-test.false) c.list.invariant
