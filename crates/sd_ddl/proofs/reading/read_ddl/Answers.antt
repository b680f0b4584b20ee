use Rattle.std.proofs.Common.{subst}
use Rattle.sd_ddl.specs.Plain.{ReadsAll}
use Rattle.sd_ddl.proofs.Plainly.{read_so}
use Rattle.sd_ddl.proofs.reading.read_ddl.Goals as goal

pub returns-in-Some : goal.returns-in-Some
returns-in-Some c =
    read_so c.args.limit c.args.bytes.now c.args.graph.now c.in-Some.read (c.is_empty.ensures.0 c.if-is_empty.true)
    (subst (λ l. ReadsAll c.args.limit c.args.bytes.now l c.in-Some.read) c.limits.ensures.value c.in-Some.ensures)
