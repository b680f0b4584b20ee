use Rattle.std.proofs.Common.{[], ◌∷◌, ◌++◌, arith, ap, ◌∙◌}
use Rattle.std.specs.Prelude.{map}
use Rattle.constraint_recheck.specs.Recheck.{may_carry}
use Rattle.refute_site.specs.Candidates.{candidate_graph}
use Rattle.query_links.specs.Links.{placed}
use Rattle.refute_site.specs.Links.{frozen_links}
use Rattle.refute_site.proofs.Lists.{gathered_more, gathered_all}
use Rattle.refute_site.proofs.Frozen.{block_frozen}
use Rattle.refute_site.proofs.candidates.push_block.Goals as goal

pub loop-link-preserved : goal.loop-link-preserved
loop-link-preserved g c =
    let may = may_carry (g.J.Judge.tests c.args.judge.now) c.args.version c.args.function.now c.args.asked.now in
    record {
      graphs =
          gathered_more (λ k. frozen_links may c.args.twice c.args.label.now (placed c.args.block.now.chain.conditions k ∷ [])) (map candidate_graph c.args.found.now.items) (map candidate_graph c.loop-link.found.items) (map candidate_graph c.push_carrier.new.found.items)
          c.args.block.now.links.items c.deref-link-items.result.now c.loop-link.link-index c.link-item.result c.deref-link-items.ensures.value (omega arith) c.link-item.is c.loop-link.invariant.graphs c.in_ok-push_carrier.ensures.graphs;
      variables = λ had is. c.in_ok-push_carrier.ensures.variables (c.loop-link.invariant.variables had is) is;
    }

pub returns-clause-graphs : goal.returns-clause-graphs
returns-clause-graphs g c =
    let may = may_carry (g.J.Judge.tests c.args.judge.now) c.args.version c.args.function.now c.args.asked.now in
    gathered_all (λ k. frozen_links may c.args.twice c.args.label.now (placed c.args.block.now.chain.conditions k ∷ [])) (map candidate_graph c.args.found.now.items) (map candidate_graph c.loop-link.found.items) c.args.block.now.links.items c.deref-link-items.result.now
    c.loop-link.link-index c.deref-link-items.ensures.value (omega arith) c.loop-link.invariant.graphs
    ∙ ap (λ z. map candidate_graph c.args.found.now.items ++ z) (block_frozen may c.args.twice c.args.label.now c.args.block.now)
