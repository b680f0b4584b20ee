use Rattle.std.proofs.Common.{◌≡◌}
use Rattle.std.specs.Prelude.{true}
use Rattle.std.proofs.lemmas.Result.{IfOk-weaker}
use Rattle.query_blocks.specs.Blocks.{scope_of}
use Rattle.constraint_spec.specs.Placed.{mentions_of}
use Rattle.constraint_recheck.specs.Options.{for_each}
use Rattle.constraint_recheck.specs.Search.{find_shown, find_certificate}
use Rattle.constraint_prover.specs.Verdicts.{certificate_in}
use Rattle.constraint_prover.proofs.Found.{only_found, never_found, one_found}
use Rattle.constraint_prover.proofs.search.find_certificate.Goals as goal

pub returns-in_ok-holds-in-Only : goal.returns-in_ok-holds-in-Only
returns-in_ok-holds-in-Only g c =
    only_found (g.J.Judge.tests c.args.query.now.judge.now) (scope_of c.args.query.now.blocks.now) c.args.constraint.now (certificate_in c.without_uses.result) c.in-Only.function c.in-Only.label c.in_ok-label-in-Only.label c.in_ok-holds-in-Only.holds c.in-Only.target c.in-Only.is
    c.in_ok-label-in-Only.ensures c.in_ok-holds-in-Only.ensures c.without_uses.ensures

pub returns-in_ok-holds-in-Never : goal.returns-in_ok-holds-in-Never
returns-in_ok-holds-in-Never g c =
    never_found (g.J.Judge.tests c.args.query.now.judge.now) (scope_of c.args.query.now.blocks.now) c.args.constraint.now (certificate_in c.without_uses-in-Never.result) c.in-Never.function c.in-Never.label c.in_ok-label-in-Never.label c.in_ok-holds-in-Never.holds c.in-Never.is
    c.in_ok-label-in-Never.ensures c.in_ok-holds-in-Never.ensures c.without_uses-in-Never.ensures

pub returns-else-not-branch : goal.returns-else-not-branch
returns-else-not-branch g c =
    let tests = g.J.Judge.tests c.args.query.now.judge.now in
    let q = scope_of c.args.query.now.blocks.now in
    IfOk-weaker c.show_function-in-One.result (λ v. certificate_in v ≡ for_each (find_shown tests q c.in-One.label (λ k. true)) (mentions_of q c.in-One.function)) (λ v. certificate_in v ≡ find_certificate tests q c.args.constraint.now)
    (λ v e. one_found tests q c.args.constraint.now (certificate_in v) c.in-One.function c.in-One.label c.in_ok-asked-in-One.asked c.in_ok-is_single-in-One.field-0 c.in-One.is c.in_ok-asked-in-One.ensures c.in_ok-is_single-in-One.ensures c.if-not-branch.false e) c.show_function-in-One.ensures
