use Rattle.std.proofs.Common.{◌≡◌, ◌++◌, ap, ◌∙◌}
use Rattle.std.specs.Prelude.{map}
use Rattle.counterexample_spec.specs.Candidates.{either_way}
use Rattle.refute_site.specs.Candidates.{candidate_graph}
use Rattle.query_links.specs.Links.{placed}
use Rattle.refute_site.specs.Links.{frozen_link}
use Rattle.refute_site.proofs.Pushed.{on_ok, link_ways}
use Rattle.refute_site.proofs.candidates.push_link.Goals as goal

pub returns-clause-graphs : goal.returns-clause-graphs
returns-clause-graphs c =
    let had = map candidate_graph c.args.found.now.items in
    on_ok c.push_ways.result
    (map candidate_graph c.push_ways.new.found.items ≡ had ++ either_way (λ repeats. candidate_graph (record { chain = c.args.chain; set = c.set_label-set.result; source = c.shared_source-source.result; repeats = repeats })))
    (map candidate_graph c.push_ways.new.found.items ≡ had ++ frozen_link c.args.twice c.args.label.now (placed c.args.chain.now.conditions c.args.link.now))
    (λ e. e ∙ ap (λ z. had ++ z) (link_ways c.args.chain c.args.link.now c.args.label.now c.set_label-set.result c.set_label-set.ensures c.args.twice c.shared_source-source.result c.shared_source-source.ensures))
    c.push_ways.ensures.graphs
