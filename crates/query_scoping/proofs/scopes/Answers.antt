use Rattle.std.proofs.Common.{ap, subst}
use Rattle.query_spec.specs.Query.{Query}
use Rattle.struql_check.specs.Parsed.{IsParsed}
use Rattle.query_scoping.proofs.Joined.{scope_same, all_scoped}
use Rattle.query_scoping.proofs.scopes.Goals as goal

pub returns-clause-scope : goal.returns-clause-scope
returns-clause-scope c =
    scope_same _ _ _ _ (ap (λ (q : Query). q.version) c.query-query.ensures.same) c.in_ok-blocks.ensures.bodies

pub returns-clause-scoped : goal.returns-clause-scoped
returns-clause-scoped c =
    let parsed = subst IsParsed c.query-query.ensures.same c.query-query.ensures.parsed in
    let all = all_scoped c.args.checked.now c.in_ok-blocks.blocks.items parsed c.in_ok-blocks.ensures.bodies c.in_ok-blocks.ensures.chains c.in_ok-blocks.ensures.safe in
    rw (ap (λ (q : Query). q.version) c.query-query.ensures.same) all
