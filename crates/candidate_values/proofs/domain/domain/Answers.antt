use Rattle.candidate_values.proofs.Offers.{labels_are_domain}
use Rattle.candidate_values.proofs.domain.domain.Goals as goal

pub returns-in_ok-values : goal.returns-in_ok-values
returns-in_ok-values g c = labels_are_domain (g.S.Store.graph c.args.store.now) _ _ _ c.if-arc.true c.in_ok-labels.ensures c.in_ok-values.ensures
