use Rattle.std.proofs.Common.{sym, ◌∙◌}
use Rattle.std.proofs.lemmas.Result.{err_from_is_err_and}
use Rattle.sd_lex.specs.declared.token.Sign.TheVariants as signs
use Rattle.grammar.proofs.Loop.{is_done}
use Rattle.token_reader.specs.Terminals.{is_sign}
use Rattle.struql_text.specs.Terminals.{operand_value}
use Rattle.struql_text.specs.Reading.{read_further, read_operand}
use Rattle.struql_text.proofs.Shorter.{takes_keeps, one_takes}
use Rattle.struql_text.proofs.Lists.{list_shrinks, list_ends, list_goes_on, list_smaller}
use Rattle.struql_text.proofs.terms.operands_from.Goals as goal

pub returns-in_err-item : goal.returns-in_err-item
returns-in_err-item c =
    let p = err_from_is_err_and c.from_residual-in_err-item.result c.from_residual-in_err-item.ensures.1 in
    rw (p.1, p.2) (list_ends (takes_keeps _ (one_takes (operand_value c.args.version))) c.in_err-item.field-0.0 c.list.items.items c.list.rest.now _ (sym c.has_sign.ensures ∙ c.list-test.true) c.in_err-item.ensures c.list.invariant)

pub list-smaller : goal.list-smaller
list-smaller c = list_smaller (takes_keeps _ (one_takes (operand_value c.args.version))) c.list.rest.now c.in_ok-item.item c.in_ok-item.after.now (sym c.has_sign.ensures ∙ c.list-test.true) c.in_ok-item.ensures

pub list-preserved : goal.list-preserved
list-preserved c = rw c.in_ok-push-2.ensures.items (list_goes_on (takes_keeps _ (one_takes (operand_value c.args.version))) c.list.items.items c.list.rest.now c.in_ok-item.item c.in_ok-item.after.now _ (sym c.has_sign.ensures ∙ c.list-test.true) c.in_ok-item.ensures c.list.invariant)

pub returns : goal.returns
returns c = is_done (is_sign signs.Comma) (read_further (read_operand c.args.version)) (list_shrinks (takes_keeps _ (one_takes (operand_value c.args.version)))) c.list.items.items c.list.rest.now _ (sym c.has_sign.ensures ∙ c.list-test.false) c.list.invariant
