use Rattle.std.proofs.Common.{sym, ◌∙◌}
use Rattle.std.proofs.lemmas.Result.{err_from_is_err_and}
use Rattle.sd_lex.specs.declared.token.Sign.TheVariants as signs
use Rattle.grammar.specs.Reading.{guard}
use Rattle.grammar.proofs.Loop.{goes_on, is_done}
use Rattle.token_reader.specs.Terminals.{is_sign}
use Rattle.struql_text.specs.Found.{found}
use Rattle.struql_text.specs.Expression.{bounded}
use Rattle.struql_text.specs.Reading.{read_atom, read_bar_step, read_dot_step}
use Rattle.struql_text.proofs.Loops.{bar_shrinks, bar_ends, dot_shrinks, dot_ends, atom_leaf, atom_past, atom_paren}
use Rattle.struql_text.proofs.expression.+expression.Goals as goal

pub atom_at-returns-then-not-has_sign : goal.atom_at-returns-then-not-has_sign
atom_at-returns-then-not-has_sign t c = rw (atom_leaf c.args.depth c.args.signs c.args.tokens.now (sym c.has_sign.ensures ∙ c.if-not-has_sign.true)) c.leaf_at.ensures

pub atom_at-returns-then-depth-eq0 : goal.atom_at-returns-then-depth-eq0
atom_at-returns-then-depth-eq0 t c = atom_past c.args.depth c.args.signs c.args.tokens.now (sym c.has_sign.ensures ∙ c.if-not-has_sign.false) c.if-depth-eq0.true

pub atom_at-returns-else-depth-eq0 : goal.atom_at-returns-else-depth-eq0
atom_at-returns-else-depth-eq0 t c = rw (atom_paren c.args.depth c.args.signs c.args.tokens.now (sym c.has_sign.ensures ∙ c.if-not-has_sign.false) c.if-depth-eq0.false) c.paren_at.ensures

pub bar_steps_at-returns-in_err-wider : goal.bar_steps_at-returns-in_err-wider
bar_steps_at-returns-in_err-wider t c =
    let p = err_from_is_err_and c.from_residual.result c.from_residual.ensures.1 in
    rw (p.1, p.2) (bar_ends c.args.depth c.in_err-wider.field-0.0 (found c.bars.so_far) c.bars.rest.now _ (sym c.has_sign.ensures ∙ c.bars-test.true) c.in_err-wider.ensures c.bars.invariant)

pub bar_steps_at-bars-smaller : goal.bar_steps_at-bars-smaller
bar_steps_at-bars-smaller t c =
    bar_shrinks c.args.depth (found c.bars.so_far) c.bars.rest.now (found c.in_ok-wider.wider) c.in_ok-wider.after.now (sym c.has_sign.ensures ∙ c.bars-test.true) c.in_ok-wider.ensures

pub bar_steps_at-bars-preserved : goal.bar_steps_at-bars-preserved
bar_steps_at-bars-preserved t c =
    goes_on (is_sign signs.Bar) (λ e. guard (bounded.sign e.signs) (read_bar_step (read_atom c.args.depth) e)) (bar_shrinks c.args.depth) (found c.bars.so_far) c.bars.rest.now (found c.in_ok-wider.wider) c.in_ok-wider.after.now _ (sym c.has_sign.ensures ∙ c.bars-test.true) c.in_ok-wider.ensures c.bars.invariant

pub bar_steps_at-returns : goal.bar_steps_at-returns
bar_steps_at-returns t c = is_done (is_sign signs.Bar) (λ e. guard (bounded.sign e.signs) (read_bar_step (read_atom c.args.depth) e)) (bar_shrinks c.args.depth) (found c.bars.so_far) c.bars.rest.now _ (sym c.has_sign.ensures ∙ c.bars-test.false) c.bars.invariant

pub dot_steps_at-returns-in_err-longer : goal.dot_steps_at-returns-in_err-longer
dot_steps_at-returns-in_err-longer t c =
    let p = err_from_is_err_and c.from_residual.result c.from_residual.ensures.1 in
    rw (p.1, p.2) (dot_ends c.args.depth c.in_err-longer.field-0.0 (found c.dots.so_far) c.dots.rest.now _ (sym c.has_sign.ensures ∙ c.dots-test.true) c.in_err-longer.ensures c.dots.invariant)

pub dot_steps_at-dots-smaller : goal.dot_steps_at-dots-smaller
dot_steps_at-dots-smaller t c =
    dot_shrinks c.args.depth (found c.dots.so_far) c.dots.rest.now (found c.in_ok-longer.longer) c.in_ok-longer.after.now (sym c.has_sign.ensures ∙ c.dots-test.true) c.in_ok-longer.ensures

pub dot_steps_at-dots-preserved : goal.dot_steps_at-dots-preserved
dot_steps_at-dots-preserved t c =
    goes_on (is_sign signs.Dot) (λ e. guard (bounded.sign e.signs) (read_dot_step (read_atom c.args.depth) e)) (dot_shrinks c.args.depth) (found c.dots.so_far) c.dots.rest.now (found c.in_ok-longer.longer) c.in_ok-longer.after.now _ (sym c.has_sign.ensures ∙ c.dots-test.true) c.in_ok-longer.ensures c.dots.invariant

pub dot_steps_at-returns : goal.dot_steps_at-returns
dot_steps_at-returns t c = is_done (is_sign signs.Dot) (λ e. guard (bounded.sign e.signs) (read_dot_step (read_atom c.args.depth) e)) (dot_shrinks c.args.depth) (found c.dots.so_far) c.dots.rest.now _ (sym c.has_sign.ensures ∙ c.dots-test.false) c.dots.invariant
