use Rattle.std.proofs.Common.{◌≡◌, Ok, sym, subst, ◌∙◌}
use Rattle.std.proofs.lemmas.Result.{err_from_is_err_and}
use Rattle.sd_lex.specs.Lexing.{IsTextOrFault}
use Rattle.struql_parse.specs.Blocks.{query_within}
use Rattle.struql_parse.proofs.TextOnly.{no_tokens, not_spelled, refused}
use Rattle.struql_parse.proofs.entry.parse.Goals as goal

pub returns-in_err-tokens-clause-only : goal.returns-in_err-tokens-clause-only
returns-in_err-tokens-clause-only c tokens query h f =
    let p = err_from_is_err_and c.from_residual.result c.from_residual.ensures.1 in
    rw (p.1, p.2) (no_tokens c.in_err-tokens.field-0.0 tokens query (c.in_err-tokens.ensures.only (Ok tokens) h))

pub returns-in_err-query-clause-only : goal.returns-in_err-query-clause-only
returns-in_err-query-clause-only c tokens query h f =
    let p = err_from_is_err_and c.from_residual-in_err-query.result c.from_residual-in_err-query.ensures.1 in
    let same : Ok c.in_ok-tokens.tokens.items ≡ Ok tokens = c.in_ok-tokens.ensures.only (Ok tokens) h in
    let items : c.in_ok-tokens.tokens.items ≡ tokens = cc in
    rw (p.1, p.2) (not_spelled c.in_err-query.field-0.0 c.as_slice.result.now query c.in_err-query.ensures.only (subst (λ x. query_within x query) (sym (c.as_slice.ensures.value ∙ items)) f))

pub returns-clause-only : goal.returns-clause-only
returns-clause-only c tokens query h f =
    let same : Ok c.in_ok-tokens.tokens.items ≡ Ok tokens = c.in_ok-tokens.ensures.only (Ok tokens) h in
    let items : c.in_ok-tokens.tokens.items ≡ tokens = cc in
    c.in_ok-query.ensures.only query (subst (λ x. query_within x query) (sym (c.as_slice.ensures.value ∙ items)) f)

pub returns-in_err-query-clause-exact : goal.returns-in_err-query-clause-exact
returns-in_err-query-clause-exact c =
    let p = err_from_is_err_and c.from_residual-in_err-query.result c.from_residual-in_err-query.ensures.1 in
    rw (p.1, p.2) (refused c.in_err-query.field-0.0 c.args.limit c.args.bytes.now c.as_slice.result.now (subst (λ x. IsTextOrFault c.args.limit c.args.bytes.now (Ok x)) (sym c.as_slice.ensures.value) c.in_ok-tokens.ensures.exact) c.in_err-query.ensures.exact)
