use Rattle.std.proofs.Common.{subst}
use Rattle.std.specs.Prelude.{Contains}
use Rattle.query_spec.specs.Query as plain
use Rattle.query_spec.specs.Query.{Body, blocks_in_scope}
use Rattle.query_scoping.specs.Blocks.{IsSafe}
use Rattle.query_scoping.proofs.Whole.{all_safe}
use Rattle.query_scoping.proofs.scoped_blocks.Goals as goal

pub returns-in_err-push_blocks-clause-safe : goal.returns-in_err-push_blocks-clause-safe
returns-in_err-push_blocks-clause-safe c =
    subst (λ (q : plain.Query). (b : Body) → Contains (blocks_in_scope q) b → IsSafe q.version b) c.query-query.ensures.same (all_safe c.query-query.result.now c.query-query.ensures.faultless c.query-query.ensures.parsed)

pub returns-clause-safe : goal.returns-clause-safe
returns-clause-safe c =
    subst (λ (q : plain.Query). (b : Body) → Contains (blocks_in_scope q) b → IsSafe q.version b) c.query-query.ensures.same (all_safe c.query-query.result.now c.query-query.ensures.faultless c.query-query.ensures.parsed)
