use Rattle.std.proofs.Common.{take}
use Rattle.constraint_prover.specs.Verdicts.{AreFound}
use Rattle.constraint_prover.proofs.find_all.Given as goal

abbrev pub invariant-loop-constraint : goal.invariant-loop-constraint
invariant-loop-constraint l = AreFound l.query.judge.now l.query.blocks.now (take l.constraint-index l.constraints) l.verdicts.items
