use Rattle.std.specs.Prelude.{not}
use Rattle.constraint_recheck.specs.Recheck.{forbids}
use Rattle.query_links.proofs.Tested.{all_of_conditions}
use Rattle.query_links.proofs.labels.may_be.Goals as goal

pub returns-in-Variable : goal.returns-in-Variable
returns-in-Variable g c =
    rw c.in-Variable.is
    (all_of_conditions (λ d. not (forbids (g.J.Judge.tests c.args.judge.now) c.args.version c.in-Variable.name c.args.label.now d)) c.conditions.result.now c.args.chain.now.conditions c.none_forbids.result c.conditions.ensures c.none_forbids.ensures)
