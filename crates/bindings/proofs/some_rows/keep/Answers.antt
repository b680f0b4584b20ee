use Rattle.std.proofs.Common.{refl}
use Rattle.bindings.proofs.Told.{told_other}
use Rattle.bindings.proofs.some_rows.keep.Goals as goal

pub returns-in_ok-insert-clause-told : goal.returns-in_ok-insert-clause-told
returns-in_ok-insert-clause-told c wanted has told =
    told_other wanted c.args.told.now (record { first = c.args.told.now.first; others = c.insert.new.self; rows = c.args.told.now.rows }) c.args.part refl c.in_ok-insert.ensures.updates.0 refl has told
