use Rattle.std.proofs.Common.{sym, ◌∙◌}
use Rattle.struql_ast.specs.Reading.{term_of}
use Rattle.query_parts.specs.Same.{same_term}
use Rattle.constraint_recheck.specs.Search.{Reached}
use Rattle.certificate_search.specs.Reaching.{reached_of}
use Rattle.certificate_search.proofs.Steps.{any_true, any_false}
use Rattle.certificate_search.proofs.sources.is_seen.Goals as goal

pub returns-then-same_terms : goal.returns-then-same_terms
returns-then-same_terms c =
    sym (any_true (λ (r : Reached). same_term r.term (term_of c.args.term.now)) reached_of c.args.seen.now c.loop-reached.reached-index c.reached-item.result c.loop-reached-test.true c.reached-item.is
    (sym c.same_terms.ensures ∙ c.if-same_terms.true))
    ∙ c.loop-reached.invariant

pub loop-reached-preserved : goal.loop-reached-preserved
loop-reached-preserved c =
    sym (any_false (λ (r : Reached). same_term r.term (term_of c.args.term.now)) reached_of c.args.seen.now c.loop-reached.reached-index c.reached-item.result c.loop-reached-test.true c.reached-item.is
    (sym c.same_terms.ensures ∙ c.if-same_terms.false))
    ∙ c.loop-reached.invariant
