use Rattle.std.proofs.Common.{◌≡◌, arith}
use Rattle.constraint_spec.specs.declared.Constraint.{Constraint}
use Rattle.constraint_spec.specs.declared.certificates.Verdict.{Verdict}
use Rattle.constraint_recheck.specs.Search.{find_certificate}
use Rattle.query_blocks.specs.Blocks.{scope_of}
use Rattle.inclusion.specs.Answers.{tests_of}
use Rattle.constraint_prover.specs.Verdicts.{certificate_in}
use Rattle.constraint_prover.proofs.Zipped.{zip_more}
use Rattle.constraint_prover.proofs.find_all.Goals as goal

pub loop-constraint-preserved : goal.loop-constraint-preserved
loop-constraint-preserved c =
    zip_more (λ (x : Constraint) (v : Verdict). certificate_in v ≡ find_certificate (tests_of c.args.query.now.judge.now) (scope_of c.args.query.now.blocks.now) x)
    c.args.constraints.now c.loop-constraint.constraint-index c.constraint-item.result c.loop-constraint.verdicts.items c.push.new.self.items c.in_ok-find_certificate.field-0
    (omega arith) c.constraint-item.is c.in_ok-push.ensures.items c.loop-constraint.invariant c.in_ok-find_certificate.ensures
