use Rattle.std.proofs.Common.{length}
use Rattle.bindings.proofs.Known.{free_count}
use Rattle.bindings.proofs.Told.{IsSomeway}
use Rattle.candidate_values.specs.Kept.{IsKept}
use Rattle.bindings.specs.Told.{RowsAreTold}
use Rattle.bindings.proofs.some_rows.+some_rows.Given as goal

abbrev pub decreases-some_rows : goal.decreases-some_rows
decreases-some_rows g l = free_count l.current.now

abbrev pub invariant-loop-value : goal.invariant-loop-value
invariant-loop-value g l =
    record {
      someway : IsSomeway l.wanted.flags.now (g.S.Store.graph l.search.store.now) l.search.version l.search.arcs.now l.search.goals.now l.next l.fn.current l.slot l.initial.values.items l.fn.told.rows.items l.current l.values.items l.told.rows.items;
      told : RowsAreTold l.wanted.flags.now l.told;
      kept : IsKept (g.S.Store.graph l.search.store.now) l.search.goals.now l.kept;
    }

abbrev pub decreases-loop-value : goal.decreases-loop-value
decreases-loop-value g l = length l.values.items
