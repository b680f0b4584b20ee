use Rattle.std.proofs.Common.{arith, List, subst}
use Rattle.std.specs.List.{AllZip}
use Rattle.site_spec.specs.Site.{scope_of}
use Rattle.constraint_spec.specs.declared.Constraint.{Constraint}
use Rattle.constraint_prover.specs.Verdicts.{IsVerdict, HoldsOverAll}
use Rattle.constraint_prover.proofs.Zipped.{zip_only, zip_one}
use Rattle.constraint_prover.proofs.prove.Goals as goal

pub remove-requires : goal.remove-requires
remove-requires c =
    let verdicts = c.in_ok-verdicts.verdicts in
    let some = zip_one (IsVerdict (scope_of c.args.query.now)) c.args.constraint.now verdicts.items
    (subst (λ (cs : List Constraint). AllZip (IsVerdict (scope_of c.args.query.now)) cs verdicts.items) c.from_ref.ensures.value c.in_ok-verdicts.ensures.exact) in
    omega (arith, verdicts.ok.0, some)

pub returns-clause-exact : goal.returns-clause-exact
returns-clause-exact c =
    zip_only (IsVerdict (scope_of c.args.query.now)) c.args.constraint.now c.in_ok-verdicts.verdicts.items c.remove.result
    (subst (λ (cs : List Constraint). AllZip (IsVerdict (scope_of c.args.query.now)) cs c.in_ok-verdicts.verdicts.items) c.from_ref.ensures.value c.in_ok-verdicts.ensures.exact) c.remove.ensures.value

pub returns-clause-holds : goal.returns-clause-holds
returns-clause-holds c =
    zip_only (HoldsOverAll (scope_of c.args.query.now)) c.args.constraint.now c.in_ok-verdicts.verdicts.items c.remove.result
    (subst (λ (cs : List Constraint). AllZip (HoldsOverAll (scope_of c.args.query.now)) cs c.in_ok-verdicts.verdicts.items) c.from_ref.ensures.value c.in_ok-verdicts.ensures.holds) c.remove.ensures.value
