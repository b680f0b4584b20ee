use Rattle.std.proofs.Common.{◌++◌, arith, refl, sym, ap, ◌∙◌}
use Rattle.std.specs.Prelude.{map}
use Rattle.query_links.specs.Mentions.{mention_of}
use Rattle.counterexample_spec.specs.Candidates.{either_way, mention_graph}
use Rattle.refute_site.specs.Candidates.{candidate_graph}
use Rattle.refute_site.proofs.Lists.{gathered_more, gathered_all, flat_mapped}
use Rattle.refute_site.proofs.Pushed.{mention_variables}
use Rattle.refute_site.proofs.candidates.push_mentions.Goals as goal

pub loop-mention-preserved : goal.loop-mention-preserved
loop-mention-preserved c = record {
  graphs =
      gathered_more (λ m. either_way (mention_graph (mention_of m))) (map candidate_graph c.args.found.now.items) (map candidate_graph c.loop-mention.found.items) (map candidate_graph c.push_ways.new.found.items) c.args.mentioned.now c.args.mentioned.now
      c.loop-mention.mention-index c.mention-item.result refl (omega arith) c.mention-item.is c.loop-mention.invariant.graphs c.in_ok-push_ways.ensures.graphs;
  variables = λ version had chains. c.in_ok-push_ways.ensures.variables (c.loop-mention.invariant.variables version had chains)
      (mention_variables version c.args.mentioned.now c.loop-mention.mention-index c.mention-item.result (omega arith) c.mention-item.is chains);
}

pub returns-clause-graphs : goal.returns-clause-graphs
returns-clause-graphs c =
    gathered_all (λ m. either_way (mention_graph (mention_of m))) (map candidate_graph c.args.found.now.items) (map candidate_graph c.loop-mention.found.items) c.args.mentioned.now c.args.mentioned.now c.loop-mention.mention-index refl (omega arith) c.loop-mention.invariant.graphs
    ∙ ap (λ z. map candidate_graph c.args.found.now.items ++ z) (sym (flat_mapped (λ m. either_way (mention_graph m)) mention_of c.args.mentioned.now))
