use Rattle.std.proofs.Common.{◌≡◌, Ok, sym, subst, ◌∙◌}
use Rattle.std.proofs.lemmas.Result.{err_from_is_err_and}
use Rattle.ddl_text.specs.DataText.{file}
use Rattle.ddl_text.proofs.TextOnly.{no_tokens, not_spelled}
use Rattle.ddl_text.proofs.text.statements_of.Goals as goal

pub returns-in_err-tokens-clause-only : goal.returns-in_err-tokens-clause-only
returns-in_err-tokens-clause-only c tokens found h f =
    let p = err_from_is_err_and c.from_residual.result c.from_residual.ensures.1 in
    rw (p.1, p.2) (no_tokens c.in_err-tokens.field-0.0 tokens found (c.in_err-tokens.ensures.only (Ok tokens) h))

pub returns-in_err-found-clause-only : goal.returns-in_err-found-clause-only
returns-in_err-found-clause-only c tokens found h f =
    let p = err_from_is_err_and c.from_residual-in_err-found.result c.from_residual-in_err-found.ensures.1 in
    let same : Ok c.in_ok-tokens.tokens.items ≡ Ok tokens = c.in_ok-tokens.ensures.only (Ok tokens) h in
    let items : c.in_ok-tokens.tokens.items ≡ tokens = cc in
    rw (p.1, p.2) (not_spelled c.in_err-found.field-0.0 c.as_slice.result.now found c.in_err-found.ensures.only (subst (λ x. file x found) (sym (c.as_slice.ensures.value ∙ items)) f))

pub returns-clause-only : goal.returns-clause-only
returns-clause-only c tokens found h f =
    let same : Ok c.in_ok-tokens.tokens.items ≡ Ok tokens = c.in_ok-tokens.ensures.only (Ok tokens) h in
    let items : c.in_ok-tokens.tokens.items ≡ tokens = cc in
    c.in_ok-found.ensures.only found (subst (λ x. file x found) (sym (c.as_slice.ensures.value ∙ items)) f)
