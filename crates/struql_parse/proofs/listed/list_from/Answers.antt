use Rattle.std.proofs.Common.{[], ◌∷◌, sym, ◌∙◌}
use Rattle.std.specs.Prelude.{map}
use Rattle.std.proofs.lemmas.Result.{err_from_is_err_and}
use Rattle.std.proofs.lemmas.List.{map-append}
use Rattle.sd_lex.specs.declared.token.Sign.TheVariants as signs
use Rattle.grammar.proofs.Loop.{is_done}
use Rattle.token_reader.specs.Terminals.{is_sign}
use Rattle.struql_text.specs.Reading.{read_further}
use Rattle.struql_text.proofs.Lists.{list_shrinks, list_ends, list_goes_on, list_smaller}
use Rattle.struql_parse.proofs.listed.list_from.Goals as goal

pub returns-in_err-item : goal.returns-in_err-item
returns-in_err-item g c =
    let p = err_from_is_err_and c.from_residual-in_err-item.result c.from_residual-in_err-item.ensures.1 in
    rw (p.1, p.2) (list_ends (g.met.T.Listed.keeps c.args.version) c.in_err-item.field-0.0 (map g.T.Listed.written c.list.items.items) c.list.rest.now _ (sym c.has_sign.ensures ∙ c.list-test.true) c.in_err-item.ensures c.list.invariant)

pub list-smaller : goal.list-smaller
list-smaller g c = list_smaller (g.met.T.Listed.keeps c.args.version) c.list.rest.now (g.T.Listed.written c.in_ok-item.item) c.in_ok-item.after.now (sym c.has_sign.ensures ∙ c.list-test.true) c.in_ok-item.ensures

pub list-preserved : goal.list-preserved
list-preserved g c =
    rw (c.in_ok-push-2.ensures.items, map-append g.T.Listed.written c.list.items.items (c.in_ok-item.item ∷ []))
    (list_goes_on (g.met.T.Listed.keeps c.args.version) (map g.T.Listed.written c.list.items.items) c.list.rest.now (g.T.Listed.written c.in_ok-item.item) c.in_ok-item.after.now _ (sym c.has_sign.ensures ∙ c.list-test.true) c.in_ok-item.ensures c.list.invariant)

pub returns : goal.returns
returns g c = is_done (is_sign signs.Comma) (read_further (g.T.Listed.read c.args.version)) (list_shrinks (g.met.T.Listed.keeps c.args.version)) (map g.T.Listed.written c.list.items.items) c.list.rest.now _ (sym c.has_sign.ensures ∙ c.list-test.false) c.list.invariant
