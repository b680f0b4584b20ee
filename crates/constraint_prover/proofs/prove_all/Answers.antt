use Rattle.std.proofs.lemmas.Result.{IfOk-weaker}
use Rattle.std.specs.List.{AllZip}
use Rattle.site_spec.specs.Site.{scope_of}
use Rattle.constraint_prover.specs.Verdicts.{AreFound, IsVerdict, HoldsOverAll}
use Rattle.constraint_prover.proofs.Verdicts.{all_exact, all_hold}
use Rattle.constraint_prover.proofs.prove_all.Goals as goal

pub returns-clause-exact : goal.returns-clause-exact
returns-clause-exact c =
    IfOk-weaker c.find_all.result (λ vs. AreFound c.in_ok-judge.judge c.blocks-blocks.result.now c.args.constraints.now vs.items) (λ vs. AllZip (IsVerdict (scope_of c.args.query.now)) c.args.constraints.now vs.items)
    (λ vs e. all_exact (scope_of c.args.query.now) c.blocks-blocks.result.now c.in_ok-judge.judge c.blocks-blocks.ensures.scope c.in_ok-judge.ensures c.args.constraints.now vs.items e) c.find_all.ensures

pub returns-clause-holds : goal.returns-clause-holds
returns-clause-holds c =
    IfOk-weaker c.find_all.result (λ vs. AreFound c.in_ok-judge.judge c.blocks-blocks.result.now c.args.constraints.now vs.items) (λ vs. AllZip (HoldsOverAll (scope_of c.args.query.now)) c.args.constraints.now vs.items)
    (λ vs e. all_hold c.certificates_of_checked_queries_hold.ensures c.query-written.result.now c.args.query.now c.query-written.ensures.same c.query-written.ensures.faultless c.query-written.ensures.parsed c.args.constraints.now vs.items
    (all_exact (scope_of c.args.query.now) c.blocks-blocks.result.now c.in_ok-judge.judge c.blocks-blocks.ensures.scope c.in_ok-judge.ensures c.args.constraints.now vs.items e)) c.find_all.ensures
