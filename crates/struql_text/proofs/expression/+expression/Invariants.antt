use Rattle.std.proofs.Common.{◌≡◌, ◌+◌, ◌*◌, length}
use Rattle.sd_lex.specs.declared.token.Sign.TheVariants as signs
use Rattle.grammar.specs.Reading.{iterate, guard}
use Rattle.token_reader.specs.Terminals.{is_sign}
use Rattle.struql_text.specs.Found.{found}
use Rattle.struql_text.specs.Expression.{bounded}
use Rattle.struql_text.specs.Reading.{read_atom, read_bar_step, read_dot_step}
use Rattle.struql_text.proofs.expression.+expression.Given as goal

abbrev pub decreases-paren_at : goal.decreases-paren_at
decreases-paren_at l = 16 * l.depth + 9

abbrev pub decreases-alt_at : goal.decreases-alt_at
decreases-alt_at l = 16 * l.depth + 8

abbrev pub decreases-bar_steps_at : goal.decreases-bar_steps_at
decreases-bar_steps_at l = 16 * l.depth + 7

abbrev pub decreases-bar_step_at : goal.decreases-bar_step_at
decreases-bar_step_at l = 16 * l.depth + 6

abbrev pub decreases-seq_at : goal.decreases-seq_at
decreases-seq_at l = 16 * l.depth + 5

abbrev pub decreases-dot_steps_at : goal.decreases-dot_steps_at
decreases-dot_steps_at l = 16 * l.depth + 4

abbrev pub decreases-dot_step_at : goal.decreases-dot_step_at
decreases-dot_step_at l = 16 * l.depth + 3

abbrev pub decreases-post_at : goal.decreases-post_at
decreases-post_at l = 16 * l.depth + 2

abbrev pub decreases-atom_at : goal.decreases-atom_at
decreases-atom_at l = 16 * l.depth + 1

abbrev pub invariant-bar_steps_at-bars : goal.invariant-bar_steps_at-bars
invariant-bar_steps_at-bars l =
    iterate (is_sign signs.Bar) (λ e. guard (bounded.sign e.signs) (read_bar_step (read_atom l.depth) e)) (found l.so_far) l.rest
    ≡ iterate (is_sign signs.Bar) (λ e. guard (bounded.sign e.signs) (read_bar_step (read_atom l.depth) e)) (found l.fn.first) l.tokens

abbrev pub decreases-bar_steps_at-bars : goal.decreases-bar_steps_at-bars
decreases-bar_steps_at-bars l = length l.rest

abbrev pub invariant-dot_steps_at-dots : goal.invariant-dot_steps_at-dots
invariant-dot_steps_at-dots l =
    iterate (is_sign signs.Dot) (λ e. guard (bounded.sign e.signs) (read_dot_step (read_atom l.depth) e)) (found l.so_far) l.rest
    ≡ iterate (is_sign signs.Dot) (λ e. guard (bounded.sign e.signs) (read_dot_step (read_atom l.depth) e)) (found l.fn.first) l.tokens

abbrev pub decreases-dot_steps_at-dots : goal.decreases-dot_steps_at-dots
decreases-dot_steps_at-dots l = length l.rest
