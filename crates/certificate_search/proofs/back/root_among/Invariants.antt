use Rattle.std.proofs.Common.{◌≡◌, drop}
use Rattle.std.specs.Prelude.{map, Some, None, if◌then◌else◌}
use Rattle.query_parts.specs.Same.{same_term}
use Rattle.constraint_recheck.specs.Options.{first_of}
use Rattle.constraint_recheck.specs.Search.{root_term}
use Rattle.certificate_search.specs.Reaching.{reached_of}
use Rattle.certificate_search.proofs.back.root_among.Given as goal

abbrev pub invariant-loop-reached : goal.invariant-loop-reached
invariant-loop-reached l =
    first_of (λ s. if same_term s.term (root_term l.root) then Some s.uses else None) (map reached_of (drop l.reached-index l.seen))
    ≡ first_of (λ s. if same_term s.term (root_term l.root) then Some s.uses else None) (map reached_of l.seen)
