use Rattle.std.proofs.Common.{◌≡◌, length}
use Rattle.sd_lex.specs.declared.token.Sign.TheVariants as signs
use Rattle.grammar.specs.Reading.{iterate, guard}
use Rattle.token_reader.specs.Terminals.{is_sign}
use Rattle.struql_text.specs.Found.{found}
use Rattle.struql_text.specs.Expression.{bounded}
use Rattle.struql_text.specs.Reading.{read_star_step}
use Rattle.struql_text.proofs.expression.star_steps_at.Given as goal

abbrev pub invariant-stars : goal.invariant-stars
invariant-stars l =
    iterate (is_sign signs.Star) (λ e. guard (bounded.star e.tree) (read_star_step e)) (found l.so_far) l.rest
    ≡ iterate (is_sign signs.Star) (λ e. guard (bounded.star e.tree) (read_star_step e)) (found l.fn.first) l.tokens

abbrev pub decreases-stars : goal.decreases-stars
decreases-stars l = length l.rest
