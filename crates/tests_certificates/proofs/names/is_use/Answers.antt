use Rattle.tests_certificates.specs.Links.{placed_link}
use Rattle.tests_certificates.proofs.UseSteps.{use_true}
use Rattle.tests_certificates.proofs.names.is_use.Goals as goal

pub returns : goal.returns
returns g c =
    use_true (g.J.Judge.tests c.args.judge.now) c.args.version c.args.given.now.conditions (placed_link c.args.link.now) c.args.names.now c.variables.result.now c.variables-variables.result.now
    (cc c.variables.ensures) (cc c.variables-variables.ensures) _ _ c.are_some.result c.in_ok-entailed.entailed c.conditions.ensures c.conditions-2.ensures c.are_some.ensures (cc) c.in_ok-entailed.ensures
