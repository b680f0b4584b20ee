use Rattle.std.proofs.Common.{◌∙◌, sym, ap, ◌+◌, take}
use Rattle.sd_ddl.proofs.Conflicts.{first_found, not_yet}
use Rattle.sd_ddl.proofs.conflict.first_conflict.Goals as goal

pub returns-then-branch : goal.returns-then-branch
returns-then-branch c =
    let (same, has, reached) = c.loop-part.invariant in
    first_found c.args.parts.now c.args.kinds.now c.requires c.loop-part.part-index c.part-item.result c.loop-part-test.true c.part-item.is c.loop-part.seen has reached
    c.loop-part.count c.place-place.result same c.place-place.ensures (sym c.in_ok-conflicts.ensures ∙ c.if-branch.true)

pub loop-part-preserved : goal.loop-part-preserved
loop-part-preserved c =
    let (same, has, reached) = c.loop-part.invariant in
    let (more, next) =
    not_yet c.args.parts.now c.args.kinds.now c.requires c.loop-part.part-index c.part-item.result c.loop-part-test.true c.part-item.is c.loop-part.seen has reached
    c.add_part.new.self (c.in_ok-add_part.ensures (take c.loop-part.part-index c.args.parts.now) has) (sym c.in_ok-conflicts.ensures ∙ c.if-branch.false) in
    (ap (λ n. n + 1) same, more, next)
