use Rattle.std.proofs.Common.{◌∙◌, List, subst, refl}
use Rattle.std.specs.Prelude.{Contains}
use Rattle.sd_value.specs.declared.Value.{Value}
use Rattle.sd_value.specs.declared.Value.TheVariants.{Page}
use Rattle.struql_ast.specs.declared.Link.{Link}
use Rattle.struql_ast.specs.Reading.{link_of}
use Rattle.site_spec.specs.Site.{IsJoined}
use Rattle.query_blocks.specs.declared.QueryBlock.{QueryBlock}
use Rattle.query_blocks.specs.Blocks.{scope_of}
use Rattle.sd_value.specs.Gathered.{Gathered}
use Rattle.site_lookups.specs.Ends.{BlockJoins}
use Rattle.site_lookups.proofs.Some.{item_in}
use Rattle.sd_value.proofs.Gathering.{gathered_next, gathered_end}
use Rattle.site_lookups.proofs.Targets.{block_joins, linked_to, linked_from}
use Rattle.std.proofs.Common.{◌+◌, refl}
use Rattle.weight_spec.specs.CountsAtMost.{CountsAtMost, IsAt}
use Rattle.weight_spec.proofs.Handing.{hands_next, hands_all, hands_begin}
use Rattle.site_lookups.specs.Counts.{IsLinkRow}
use Rattle.sd_value.proofs.Gathering.{gathered_none}
use Rattle.site_lookups.proofs.linked.links_out.Goals as goal

pub ends_of_block-requires : goal.ends_of_block-requires
ends_of_block-requires g c = record { scoped = (c.args.scopes.now.version, c.requires.scoped c.block-item.result (subst (λ (bs : List QueryBlock). Contains bs c.block-item.result) c.as_slice-blocks.ensures.value (item_in _ _ _ c.loop-block-test.true c.block-item.is))) }

pub loop-block-preserved : goal.loop-block-preserved
loop-block-preserved g c =
    let more = subst (λ G. Gathered (λ (k : Link) (v : Value). IsJoined G c.block-item.result.chain (Page c.args.term.now) c.args.label.now v (link_of k)) c.block-item.result.links.items c.in_ok-more.more.items) c.loop-block.invariant.graph c.in_ok-more.ensures.ends in
    let here = block_joins (g.A.Asker.graph c.args.asker.now) (Page c.args.term.now) c.args.label.now c.block-item.result c.in_ok-more.more.items more in
    record {
      graph = c.in_ok-more.ensures.graph ∙ c.loop-block.invariant.graph;
      gathered = rw c.in_ok-append.ensures.items (gathered_next (BlockJoins (g.A.Asker.graph c.args.asker.now) (Page c.args.term.now) c.args.label.now) c.as_slice-blocks.result.now c.loop-block.block-index c.block-item.result c.loop-block.ends.items c.in_ok-more.more.items c.loop-block-test.true c.block-item.is c.loop-block.invariant.gathered (λ v h. (here v).0 h) (λ v h. (here v).1 h));
      counted = hands_next c.as_slice-blocks.result.now (λ b. IsAt b.links.items (λ k. IsLinkRow (g.A.Asker.graph c.args.asker.now) b.chain c.args.term.now c.args.label.now (link_of k))) c.loop-block.block-index c.block-item.result (g.A.Asker.count c.args.asker.now) (g.A.Asker.count c.loop-block.asker) (g.A.Asker.count c.ends_of_block.new.asker) c.loop-block-test.true c.block-item.is c.loop-block.invariant.counted (subst (λ G. CountsAtMost (IsAt c.block-item.result.links.items (λ k. IsLinkRow G c.block-item.result.chain c.args.term.now c.args.label.now (link_of k))) (g.A.Asker.count c.loop-block.asker) (g.A.Asker.count c.ends_of_block.new.asker)) c.loop-block.invariant.graph c.in_ok-more.ensures.counted);
    }

pub returns-clause-ends : goal.returns-clause-ends
returns-clause-ends g c =
    let all = subst (λ (bs : List QueryBlock). Gathered (BlockJoins (g.A.Asker.graph c.args.asker.now) (Page c.args.term.now) c.args.label.now) bs c.loop-block.ends.items) c.as_slice-blocks.ensures.value (gathered_end (BlockJoins (g.A.Asker.graph c.args.asker.now) (Page c.args.term.now) c.args.label.now) c.as_slice-blocks.result.now c.loop-block.block-index c.loop-block.ends.items c.loop-block-test.false c.loop-block.invariant.gathered) in
    record {
      ascending = c.sort_and_dedup.ensures.ascending;
      sound = λ v h. linked_to (g.A.Asker.graph c.args.asker.now) (scope_of c.args.scopes.now) c.args.scopes.now.blocks.items (Page c.args.term.now) c.args.label.now c.loop-block.ends.items c.requires.scoped refl all v (c.sort_and_dedup.ensures.sound v h);
      complete = λ v h. c.sort_and_dedup.ensures.complete v (linked_from (g.A.Asker.graph c.args.asker.now) (scope_of c.args.scopes.now) c.args.scopes.now.blocks.items (Page c.args.term.now) c.args.label.now c.loop-block.ends.items c.requires.scoped refl all v h);
    }

pub returns-in_err-more-clause-counted : goal.returns-in_err-more-clause-counted
returns-in_err-more-clause-counted g c =
    subst (λ (ks : List QueryBlock). CountsAtMost (IsAt ks (λ b. IsAt b.links.items (λ k. IsLinkRow (g.A.Asker.graph c.args.asker.now) b.chain c.args.term.now c.args.label.now (link_of k)))) (g.A.Asker.count c.args.asker.now) (g.A.Asker.count c.ends_of_block.new.asker)) c.as_slice-blocks.ensures.value (hands_all c.as_slice-blocks.result.now (λ b. IsAt b.links.items (λ k. IsLinkRow (g.A.Asker.graph c.args.asker.now) b.chain c.args.term.now c.args.label.now (link_of k))) (c.loop-block.block-index + 1) (g.A.Asker.count c.args.asker.now) (g.A.Asker.count c.ends_of_block.new.asker) (hands_next c.as_slice-blocks.result.now (λ b. IsAt b.links.items (λ k. IsLinkRow (g.A.Asker.graph c.args.asker.now) b.chain c.args.term.now c.args.label.now (link_of k))) c.loop-block.block-index c.block-item.result (g.A.Asker.count c.args.asker.now) (g.A.Asker.count c.loop-block.asker) (g.A.Asker.count c.ends_of_block.new.asker) c.loop-block-test.true c.block-item.is c.loop-block.invariant.counted (subst (λ G. CountsAtMost (IsAt c.block-item.result.links.items (λ k. IsLinkRow G c.block-item.result.chain c.args.term.now c.args.label.now (link_of k))) (g.A.Asker.count c.loop-block.asker) (g.A.Asker.count c.ends_of_block.new.asker)) c.loop-block.invariant.graph c.in_err-more.ensures.counted)))

pub returns-in_err-append-clause-counted : goal.returns-in_err-append-clause-counted
returns-in_err-append-clause-counted g c =
    subst (λ (ks : List QueryBlock). CountsAtMost (IsAt ks (λ b. IsAt b.links.items (λ k. IsLinkRow (g.A.Asker.graph c.args.asker.now) b.chain c.args.term.now c.args.label.now (link_of k)))) (g.A.Asker.count c.args.asker.now) (g.A.Asker.count c.ends_of_block.new.asker)) c.as_slice-blocks.ensures.value (hands_all c.as_slice-blocks.result.now (λ b. IsAt b.links.items (λ k. IsLinkRow (g.A.Asker.graph c.args.asker.now) b.chain c.args.term.now c.args.label.now (link_of k))) (c.loop-block.block-index + 1) (g.A.Asker.count c.args.asker.now) (g.A.Asker.count c.ends_of_block.new.asker) (hands_next c.as_slice-blocks.result.now (λ b. IsAt b.links.items (λ k. IsLinkRow (g.A.Asker.graph c.args.asker.now) b.chain c.args.term.now c.args.label.now (link_of k))) c.loop-block.block-index c.block-item.result (g.A.Asker.count c.args.asker.now) (g.A.Asker.count c.loop-block.asker) (g.A.Asker.count c.ends_of_block.new.asker) c.loop-block-test.true c.block-item.is c.loop-block.invariant.counted (subst (λ G. CountsAtMost (IsAt c.block-item.result.links.items (λ k. IsLinkRow G c.block-item.result.chain c.args.term.now c.args.label.now (link_of k))) (g.A.Asker.count c.loop-block.asker) (g.A.Asker.count c.ends_of_block.new.asker)) c.loop-block.invariant.graph c.in_ok-more.ensures.counted)))

pub returns-clause-counted : goal.returns-clause-counted
returns-clause-counted g c =
    subst (λ (ks : List QueryBlock). CountsAtMost (IsAt ks (λ b. IsAt b.links.items (λ k. IsLinkRow (g.A.Asker.graph c.args.asker.now) b.chain c.args.term.now c.args.label.now (link_of k)))) (g.A.Asker.count c.args.asker.now) (g.A.Asker.count c.loop-block.asker)) c.as_slice-blocks.ensures.value (hands_all c.as_slice-blocks.result.now (λ b. IsAt b.links.items (λ k. IsLinkRow (g.A.Asker.graph c.args.asker.now) b.chain c.args.term.now c.args.label.now (link_of k))) (c.loop-block.block-index) (g.A.Asker.count c.args.asker.now) (g.A.Asker.count c.loop-block.asker) (c.loop-block.invariant.counted))

pub loop-block-init : goal.loop-block-init
loop-block-init g c = record { graph = refl; counted = hands_begin c.as_slice-blocks.result.now (λ b. IsAt b.links.items (λ k. IsLinkRow (g.A.Asker.graph c.args.asker.now) b.chain c.args.term.now c.args.label.now (link_of k))) (g.A.Asker.count c.args.asker.now); gathered = rw c.new-ends.ensures.items (gathered_none (BlockJoins (g.A.Asker.graph c.args.asker.now) (Page c.args.term.now) c.args.label.now)) }
