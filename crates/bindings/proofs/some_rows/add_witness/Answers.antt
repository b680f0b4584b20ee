use Rattle.std.proofs.Common.{refl}
use Rattle.bindings.proofs.Told.{some-told, told_row, part_added}
use Rattle.bindings.proofs.some_rows.add_witness.Goals as goal

pub returns-then-is_told-clause-adds : goal.returns-then-is_told-clause-adds
returns-then-is_told-clause-adds g c wanted same told =
    some-told wanted _ c.args.told.now.rows.items c.args.part.items (c.is_told.ensures c.if-is_told.true wanted told) (λ t f. same t f.agrees)

pub returns-in_ok-keep-clause-told : goal.returns-in_ok-keep-clause-told
returns-in_ok-keep-clause-told g c wanted same told =
    let fits = rw c.in-Some.is at c.in_ok-row.ensures.row in
    c.in_ok-keep.ensures.told wanted
    (part_added wanted c.args.told.now.rows.items c.push.new.self.items c.in-Some.row c.args.part.items c.in_ok-push.ensures.items (same _ fits.agrees))
    (told_row wanted c.args.told.now (record { first = c.args.told.now.first; others = c.args.told.now.others; rows = c.push.new.self }) c.in-Some.row refl refl c.in_ok-push.ensures.items told)
