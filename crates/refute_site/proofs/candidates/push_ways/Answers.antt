use Rattle.refute_site.proofs.Pushed.{two_graphs, two_variables}
use Rattle.refute_site.proofs.candidates.push_ways.Goals as goal

pub returns-clause-graphs : goal.returns-clause-graphs
returns-clause-graphs c = two_graphs c.args.found.now.items c.push.new.self.items c.push-2.new.self.items _ _ c.in_ok-push.ensures.items c.in_ok-push-2.ensures.items

pub returns-clause-variables : goal.returns-clause-variables
returns-clause-variables c = λ had is. two_variables c.args.found.now.items c.push.new.self.items c.push-2.new.self.items _ _ c.in_ok-push.ensures.items c.in_ok-push-2.ensures.items had is is
