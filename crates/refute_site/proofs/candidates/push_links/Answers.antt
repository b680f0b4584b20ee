use Rattle.std.proofs.Common.{◌++◌, arith, refl, ap, ◌∙◌, subst}
use Rattle.std.specs.Prelude.{map, Contains}
use Rattle.sd_value.specs.Members.{among_at}
use Rattle.query_spec.specs.Query.{Chain}
use Rattle.query_blocks.specs.Blocks.{body_of}
use Rattle.constraint_spec.specs.Placed.{body_links}
use Rattle.constraint_recheck.specs.Recheck.{may_carry}
use Rattle.refute_site.specs.Candidates.{candidate_graph}
use Rattle.refute_site.specs.Links.{frozen_links}
use Rattle.refute_site.proofs.Lists.{gathered_more, gathered_all}
use Rattle.refute_site.proofs.Frozen.{query_frozen}
use Rattle.refute_site.proofs.candidates.push_links.Goals as goal

pub loop-block-preserved : goal.loop-block-preserved
loop-block-preserved g c =
    let may = may_carry (g.J.Judge.tests c.args.judge.now) c.args.query.now.version c.args.function.now c.args.asked.now in
    record {
      graphs =
          gathered_more (λ b. frozen_links may c.args.twice c.args.label.now (body_links (body_of b))) (map candidate_graph c.args.found.now.items) (map candidate_graph c.loop-block.found.items) (map candidate_graph c.push_block.new.found.items)
          c.args.query.now.blocks.items c.deref-block-items.result.now c.loop-block.block-index c.block-item.result c.deref-block-items.ensures.value (omega arith) c.block-item.is c.loop-block.invariant.graphs c.in_ok-push_block.ensures.graphs;
      variables = λ had. c.in_ok-push_block.ensures.variables (c.loop-block.invariant.variables had)
          (ap (λ (ch : Chain). ch.variables)
          (c.requires c.block-item.result
          (subst (λ l. Contains l c.block-item.result) c.deref-block-items.ensures.value
          (among_at c.deref-block-items.result.now c.loop-block.block-index c.block-item.result c.block-item.result (omega arith) c.block-item.is refl))).chain);
    }

pub returns-clause-graphs : goal.returns-clause-graphs
returns-clause-graphs g c =
    let may = may_carry (g.J.Judge.tests c.args.judge.now) c.args.query.now.version c.args.function.now c.args.asked.now in
    gathered_all (λ b. frozen_links may c.args.twice c.args.label.now (body_links (body_of b))) (map candidate_graph c.args.found.now.items) (map candidate_graph c.loop-block.found.items) c.args.query.now.blocks.items c.deref-block-items.result.now
    c.loop-block.block-index c.deref-block-items.ensures.value (omega arith) c.loop-block.invariant.graphs
    ∙ ap (λ z. map candidate_graph c.args.found.now.items ++ z) (query_frozen may c.args.twice c.args.label.now c.args.query.now)
