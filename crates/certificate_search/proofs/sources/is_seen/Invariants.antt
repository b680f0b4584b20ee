use Rattle.std.proofs.Common.{◌≡◌, drop}
use Rattle.std.specs.Prelude.{map}
use Rattle.std.specs.List.{list_any}
use Rattle.struql_ast.specs.Reading.{term_of}
use Rattle.query_parts.specs.Same.{same_term}
use Rattle.certificate_search.specs.Reaching.{reached_of}
use Rattle.certificate_search.proofs.sources.is_seen.Given as goal

abbrev pub invariant-loop-reached : goal.invariant-loop-reached
invariant-loop-reached l =
    list_any (λ r. same_term r.term (term_of l.term)) (map reached_of (drop l.reached-index l.seen))
    ≡ list_any (λ r. same_term r.term (term_of l.term)) (map reached_of l.seen)
