use Rattle.site_build.proofs.Picks.{term_found, placed-term}
use Rattle.site_build.proofs.picked.has_term.Goals as goal

pub has-requires : goal.has-requires
has-requires c = placed-term c.args.term.now c.args.terms.now c.requires

pub returns : goal.returns
returns c = let found = term_found c.args.term.now c.args.terms.now in (λ yes. found.0 (c.has.ensures.0 yes), λ h. c.has.ensures.1 (found.1 h))
