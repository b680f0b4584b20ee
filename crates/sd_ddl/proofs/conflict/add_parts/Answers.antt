use Rattle.std.proofs.Common.{arith}
use Rattle.std.proofs.lemmas.Result.{err_from_is_err_and}
use Rattle.sd_ddl.specs.Tables.{told_of}
use Rattle.sd_ddl.proofs.Conflicts.{part_added, part_stopped, parts_added}
use Rattle.sd_ddl.proofs.conflict.add_parts.Goals as goal

pub returns-in_err-add_part : goal.returns-in_err-add_part
returns-in_err-add_part c =
    let p = err_from_is_err_and c.from_residual.result c.from_residual.ensures.1 in
    rw (p.1, p.2)
    (part_stopped (told_of c.args.kinds.now) c.args.parts.now c.args.graph.now c.loop-part.graph c.add_part.new.graph c.loop-part.part-index c.part-item.result c.loop-part-test.true c.part-item.is
    c.loop-part.invariant c.in_err-add_part.field-0.0 c.in_err-add_part.ensures)

pub loop-part-preserved : goal.loop-part-preserved
loop-part-preserved c =
    part_added (told_of c.args.kinds.now) c.args.parts.now c.args.graph.now c.loop-part.graph c.add_part.new.graph c.loop-part.part-index c.part-item.result c.loop-part-test.true c.part-item.is
    c.loop-part.invariant c.in_ok-add_part.ensures

pub returns : goal.returns
returns c =
    parts_added (told_of c.args.kinds.now) c.args.parts.now c.args.graph.now c.loop-part.graph c.loop-part.part-index (omega (arith, c.loop-part-test.false)) c.loop-part.invariant
