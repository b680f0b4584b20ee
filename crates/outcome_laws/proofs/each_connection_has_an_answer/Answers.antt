use Rattle.weight_spec.specs.Site.{site_of}
use Rattle.serving_spec.specs.Shown.{shown_in}
use Rattle.outcome_laws.proofs.QuerySites.{site_listed}
use Rattle.outcome_laws.proofs.Outcomes.{at_target}
use Rattle.outcome_laws.proofs.Connections.{answer_of}
use Rattle.outcome_laws.proofs.each_connection_has_an_answer.Goals as goal

pub returns : goal.returns
returns g c origin limit stream ended =
    let changing = g.C.Changing in
    answer_of
    (shown_in origin (λ current. site_of (changing.graph current) (changing.query current)) changing.templates)
    (λ current target. at_target (site_of (changing.graph current) (changing.query current))
    (site_listed (changing.graph current) (changing.query current)) (changing.templates current) origin.root target)
    limit stream ended
