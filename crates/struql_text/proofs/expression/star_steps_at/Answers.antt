use Rattle.std.proofs.Common.{sym, ◌∙◌}
use Rattle.std.proofs.lemmas.Result.{err_from_is_err_and}
use Rattle.sd_lex.specs.declared.token.Sign.TheVariants as signs
use Rattle.grammar.specs.Reading.{guard}
use Rattle.grammar.proofs.Loop.{goes_on, is_done}
use Rattle.token_reader.specs.Terminals.{is_sign}
use Rattle.struql_text.specs.Found.{found}
use Rattle.struql_text.specs.Expression.{bounded}
use Rattle.struql_text.specs.Reading.{read_star_step}
use Rattle.struql_text.proofs.Loops.{star_shrinks, star_ends}
use Rattle.struql_text.proofs.expression.star_steps_at.Goals as goal

pub returns-in_err-starred : goal.returns-in_err-starred
returns-in_err-starred c =
    let p = err_from_is_err_and c.from_residual.result c.from_residual.ensures.1 in
    rw (p.1, p.2) (star_ends c.in_err-starred.field-0.0 (found c.stars.so_far) c.stars.rest.now _ (sym c.has_sign.ensures ∙ c.stars-test.true) c.in_err-starred.ensures c.stars.invariant)

pub stars-smaller : goal.stars-smaller
stars-smaller c =
    star_shrinks (found c.stars.so_far) c.stars.rest.now (found c.in_ok-starred.starred) c.in_ok-starred.after.now (sym c.has_sign.ensures ∙ c.stars-test.true) c.in_ok-starred.ensures

pub stars-preserved : goal.stars-preserved
stars-preserved c =
    goes_on (is_sign signs.Star) (λ e. guard (bounded.star e.tree) (read_star_step e)) star_shrinks (found c.stars.so_far) c.stars.rest.now (found c.in_ok-starred.starred) c.in_ok-starred.after.now _ (sym c.has_sign.ensures ∙ c.stars-test.true) c.in_ok-starred.ensures c.stars.invariant

pub returns : goal.returns
returns c = is_done (is_sign signs.Star) (λ e. guard (bounded.star e.tree) (read_star_step e)) star_shrinks (found c.stars.so_far) c.stars.rest.now _ (sym c.has_sign.ensures ∙ c.stars-test.false) c.stars.invariant
