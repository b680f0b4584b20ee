use Rattle.site_lint.proofs.Data.{no_row, free_at}
use Rattle.site_lint.proofs.rows.is_without_rows.Goals as goal

pub returns-clause-none : goal.returns-clause-none
returns-clause-none g c =
    no_row (g.A.Asker.graph c.args.asker.now) c.args.chain.now c.new-bound.result c.in_ok-found.found
    (free_at c.variables.result.now c.args.chain.now.variables c.in_ok-free.free.items c.new-bound.result c.variables.ensures c.new-bound.ensures c.in_ok-free.ensures.free)
    c.in_ok-found.ensures.answer
