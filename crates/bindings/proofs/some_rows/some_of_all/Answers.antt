use Rattle.bindings.proofs.Told.{some_added}
use Rattle.bindings.proofs.some_rows.some_of_all.Goals as goal

pub some_rows-requires-clause-kept : goal.some_rows-requires-clause-kept
some_rows-requires-clause-kept g c = c.new-kept.ensures _ _

pub returns : goal.returns
returns g c = some_added _ _ _ _ (rw (c.new-3.ensures.items, c.in_ok-wanted.ensures) at c.in_ok-some_rows.ensures.adds) c.sort_and_dedup.ensures
