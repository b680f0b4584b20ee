-- One use after another, back from a term.
use Rattle.std.specs.Prelude.{ℕ, ◌&&◌, List, Option, Some, None}
use Rattle.std.specs.Prelude.{if◌then◌else◌}
use Rattle.query_spec.specs.Query.{Condition, SkolemTerm, Target, plain, made, summed}
use Rattle.site_spec.specs.Site.{Scope}
use Rattle.constraint_spec.specs.Placed.{PlacedLink, links_of}
use Rattle.constraint_spec.specs.Use.{LinkUse, source_of, target_of}
use Rattle.query_parts.specs.Same.{same_target}
use Rattle.constraint_recheck.specs.Entails.{Tests}
use Rattle.constraint_recheck.specs.Recheck.{link_at, is_use}

-- the target's term, if it is one
abbrev pub made_term : Target → Option SkolemTerm
made_term (plain o) = None
made_term (made t) = Some t
made_term (summed a) = None

-- the source of the use of this link, if it is a use and ends at the term
abbrev pub back_on : Tests → ℕ → List Condition → LinkUse → SkolemTerm → PlacedLink
    → Option SkolemTerm
back_on tests version S u t k =
    if is_use tests version S k u.names && same_target (target_of k u) (made t)
    then made_term (source_of k u) else None

-- that of the link of the use's number
abbrev pub back_of : Tests → ℕ → List Condition → LinkUse → SkolemTerm → Option PlacedLink
    → Option SkolemTerm
back_of tests version S u t None = None
back_of tests version S u t (Some k) = back_on tests version S u t k

-- the term from which the use leads to the term
abbrev pub back_from : Tests → Scope → List Condition → LinkUse → SkolemTerm → Option SkolemTerm
back_from tests q S u t = back_of tests q.version S u t (link_at (links_of q) u.link)
