use Rattle.site_lookups.proofs.Free.{all_rows, free_at}
use Rattle.site_lookups.proofs.Counts.{hands_listed}
use Rattle.weight_spec.proofs.Handing.{hands_none, hands_same}
use Rattle.query_spec.specs.Rows.{IsRow, IsAnswer, row_cmp, row_cmp-total}
use Rattle.site_lookups.proofs.all_rows.rows_of.Goals as goal

pub returns-clause-rows : goal.returns-clause-rows
returns-clause-rows g c =
    all_rows (g.A.Asker.graph c.args.asker.now) c.args.chain.now c.new-bound.result c.in_ok-rows.rows.items
    (free_at c.variables.result.now c.args.chain.now.variables c.in_ok-free.free.items c.new-bound.result c.variables.ensures c.new-bound.ensures c.in_ok-free.ensures.free)
    c.in_ok-rows.ensures.rows

pub returns-in_err-free-clause-counted : goal.returns-in_err-free-clause-counted
returns-in_err-free-clause-counted g c =
    hands_none (IsRow (g.A.Asker.graph c.args.asker.now) c.args.chain.now) (g.A.Asker.count c.args.asker.now)

pub returns-in_err-rows-clause-counted : goal.returns-in_err-rows-clause-counted
returns-in_err-rows-clause-counted g c =
    hands_same (IsRow (g.A.Asker.graph c.args.asker.now) c.args.chain.now) (g.A.Asker.count c.args.asker.now) (g.A.Asker.count c.ask.new.self) c.in_err-rows.ensures.counted

pub returns-clause-counted : goal.returns-clause-counted
returns-clause-counted g c =
    hands_listed row_cmp row_cmp-total (IsAnswer (g.A.Asker.graph c.args.asker.now) c.args.chain.now c.new-bound.result) (IsRow (g.A.Asker.graph c.args.asker.now) c.args.chain.now) c.in_ok-rows.rows.items (g.A.Asker.count c.args.asker.now) (g.A.Asker.count c.ask.new.self) c.in_ok-rows.ensures.rows (λ row a. a.is_row) c.in_ok-rows.ensures.counted
