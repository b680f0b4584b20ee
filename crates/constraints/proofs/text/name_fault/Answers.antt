use Rattle.std.proofs.Common.{ap}
use Rattle.constraints.proofs.Faults.{first_faulty}
use Rattle.constraints.proofs.text.name_fault.Goals as goal

pub returns : goal.returns
returns c =
    rw (c.first_fault.ensures, c.deref-2.ensures.value)
    (first_faulty c.args.query.now _ c.in_ok-functions.functions.items c.args.phrases.now (ap (λ s. s.bodies) c.blocks-blocks.ensures.scope) (rw c.deref.ensures.value at c.in_ok-functions.ensures))
