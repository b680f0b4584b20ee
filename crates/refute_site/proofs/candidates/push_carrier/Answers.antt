use Rattle.std.proofs.Common.{◌≡◌, [], ◌∷◌, ◌++◌, ap, ◌∙◌}
use Rattle.std.specs.Prelude.{map}
use Rattle.constraint_recheck.specs.Recheck.{may_carry}
use Rattle.refute_site.specs.Candidates.{candidate_graph}
use Rattle.query_links.specs.Links.{placed}
use Rattle.refute_site.specs.Links.{frozen_link, frozen_links}
use Rattle.refute_site.proofs.Pushed.{on_ok, one_kept, none_kept}
use Rattle.refute_site.proofs.candidates.push_carrier.Goals as goal

pub returns-then-may_carry-clause-graphs : goal.returns-then-may_carry-clause-graphs
returns-then-may_carry-clause-graphs g c =
    let may = may_carry (g.J.Judge.tests c.args.judge.now) c.args.version c.args.function.now c.args.asked.now in
    let k = placed c.args.chain.now.conditions c.args.link.now in
    let had = map candidate_graph c.args.found.now.items in
    on_ok c.push_link.result
    (map candidate_graph c.push_link.new.found.items ≡ had ++ frozen_link c.args.twice c.args.label.now k)
    (map candidate_graph c.push_link.new.found.items ≡ had ++ frozen_links may c.args.twice c.args.label.now (k ∷ []))
    (λ e. e ∙ ap (λ z. had ++ z) (one_kept may c.args.twice c.args.label.now k c.may_carry.result c.may_carry.ensures c.if-may_carry.true))
    c.push_link.ensures.graphs

pub returns-else-may_carry-clause-graphs : goal.returns-else-may_carry-clause-graphs
returns-else-may_carry-clause-graphs g c =
    none_kept (may_carry (g.J.Judge.tests c.args.judge.now) c.args.version c.args.function.now c.args.asked.now) c.args.twice c.args.label.now (placed c.args.chain.now.conditions c.args.link.now) c.may_carry.result (map candidate_graph c.args.found.now.items) c.may_carry.ensures c.if-may_carry.false
