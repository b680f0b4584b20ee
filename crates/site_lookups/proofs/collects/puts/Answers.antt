use Rattle.std.proofs.Common.{◌∙◌, List, subst}
use Rattle.std.specs.Prelude.{Contains}
use Rattle.sd_value.specs.declared.Value.{Value}
use Rattle.struql_ast.specs.declared.Collect.{Collect}
use Rattle.struql_ast.specs.Reading.{collect_of}
use Rattle.site_spec.specs.Site.{IsPut}
use Rattle.query_blocks.specs.declared.QueryBlock.{QueryBlock}
use Rattle.sd_value.specs.Gathered.{Gathered}
use Rattle.site_lookups.specs.Ends.{BlockPuts}
use Rattle.site_lookups.proofs.Some.{item_in}
use Rattle.sd_value.proofs.Gathering.{gathered_next, gathered_end}
use Rattle.site_lookups.proofs.Puts.{block_puts}
use Rattle.std.proofs.Common.{◌+◌, refl}
use Rattle.weight_spec.specs.CountsAtMost.{CountsAtMost, IsAt}
use Rattle.weight_spec.proofs.Handing.{hands_next, hands_all, hands_begin}
use Rattle.site_lookups.specs.Counts.{IsCollectRow}
use Rattle.sd_value.proofs.Gathering.{gathered_none}
use Rattle.site_lookups.proofs.collects.puts.Goals as goal

pub puts_of_block-requires : goal.puts_of_block-requires
puts_of_block-requires g c = record { scoped = (c.args.scopes.now.version, c.requires.scoped c.block-item.result (subst (λ (bs : List QueryBlock). Contains bs c.block-item.result) c.as_slice-blocks.ensures.value (item_in _ _ _ c.loop-block-test.true c.block-item.is))) }

pub loop-block-preserved : goal.loop-block-preserved
loop-block-preserved g c =
    let more = subst (λ G. Gathered (λ (k : Collect) (v : Value). IsPut G c.block-item.result.chain c.args.name.now v (collect_of k)) c.block-item.result.collects.items c.in_ok-more.more.items) c.loop-block.invariant.graph c.in_ok-more.ensures.values in
    let here = block_puts (g.A.Asker.graph c.args.asker.now) c.args.name.now c.block-item.result c.in_ok-more.more.items more in
    record {
      graph = c.in_ok-more.ensures.graph ∙ c.loop-block.invariant.graph;
      gathered = rw c.in_ok-append.ensures.items (gathered_next (BlockPuts (g.A.Asker.graph c.args.asker.now) c.args.name.now) c.as_slice-blocks.result.now c.loop-block.block-index c.block-item.result c.loop-block.values.items c.in_ok-more.more.items c.loop-block-test.true c.block-item.is c.loop-block.invariant.gathered (λ v h. (here v).0 h) (λ v h. (here v).1 h));
      counted = hands_next c.as_slice-blocks.result.now (λ b. IsAt b.collects.items (λ k. IsCollectRow (g.A.Asker.graph c.args.asker.now) b.chain c.args.name.now (collect_of k))) c.loop-block.block-index c.block-item.result (g.A.Asker.count c.args.asker.now) (g.A.Asker.count c.loop-block.asker) (g.A.Asker.count c.puts_of_block.new.asker) c.loop-block-test.true c.block-item.is c.loop-block.invariant.counted (subst (λ G. CountsAtMost (IsAt c.block-item.result.collects.items (λ k. IsCollectRow G c.block-item.result.chain c.args.name.now (collect_of k))) (g.A.Asker.count c.loop-block.asker) (g.A.Asker.count c.puts_of_block.new.asker)) c.loop-block.invariant.graph c.in_ok-more.ensures.counted);
    }

pub returns-clause-values : goal.returns-clause-values
returns-clause-values g c = subst (λ (bs : List QueryBlock). Gathered (BlockPuts (g.A.Asker.graph c.args.asker.now) c.args.name.now) bs c.loop-block.values.items) c.as_slice-blocks.ensures.value (gathered_end (BlockPuts (g.A.Asker.graph c.args.asker.now) c.args.name.now) c.as_slice-blocks.result.now c.loop-block.block-index c.loop-block.values.items c.loop-block-test.false c.loop-block.invariant.gathered)

pub returns-in_err-more-clause-counted : goal.returns-in_err-more-clause-counted
returns-in_err-more-clause-counted g c =
    subst (λ (ks : List QueryBlock). CountsAtMost (IsAt ks (λ b. IsAt b.collects.items (λ k. IsCollectRow (g.A.Asker.graph c.args.asker.now) b.chain c.args.name.now (collect_of k)))) (g.A.Asker.count c.args.asker.now) (g.A.Asker.count c.puts_of_block.new.asker)) c.as_slice-blocks.ensures.value (hands_all c.as_slice-blocks.result.now (λ b. IsAt b.collects.items (λ k. IsCollectRow (g.A.Asker.graph c.args.asker.now) b.chain c.args.name.now (collect_of k))) (c.loop-block.block-index + 1) (g.A.Asker.count c.args.asker.now) (g.A.Asker.count c.puts_of_block.new.asker) (hands_next c.as_slice-blocks.result.now (λ b. IsAt b.collects.items (λ k. IsCollectRow (g.A.Asker.graph c.args.asker.now) b.chain c.args.name.now (collect_of k))) c.loop-block.block-index c.block-item.result (g.A.Asker.count c.args.asker.now) (g.A.Asker.count c.loop-block.asker) (g.A.Asker.count c.puts_of_block.new.asker) c.loop-block-test.true c.block-item.is c.loop-block.invariant.counted (subst (λ G. CountsAtMost (IsAt c.block-item.result.collects.items (λ k. IsCollectRow G c.block-item.result.chain c.args.name.now (collect_of k))) (g.A.Asker.count c.loop-block.asker) (g.A.Asker.count c.puts_of_block.new.asker)) c.loop-block.invariant.graph c.in_err-more.ensures.counted)))

pub returns-in_err-append-clause-counted : goal.returns-in_err-append-clause-counted
returns-in_err-append-clause-counted g c =
    subst (λ (ks : List QueryBlock). CountsAtMost (IsAt ks (λ b. IsAt b.collects.items (λ k. IsCollectRow (g.A.Asker.graph c.args.asker.now) b.chain c.args.name.now (collect_of k)))) (g.A.Asker.count c.args.asker.now) (g.A.Asker.count c.puts_of_block.new.asker)) c.as_slice-blocks.ensures.value (hands_all c.as_slice-blocks.result.now (λ b. IsAt b.collects.items (λ k. IsCollectRow (g.A.Asker.graph c.args.asker.now) b.chain c.args.name.now (collect_of k))) (c.loop-block.block-index + 1) (g.A.Asker.count c.args.asker.now) (g.A.Asker.count c.puts_of_block.new.asker) (hands_next c.as_slice-blocks.result.now (λ b. IsAt b.collects.items (λ k. IsCollectRow (g.A.Asker.graph c.args.asker.now) b.chain c.args.name.now (collect_of k))) c.loop-block.block-index c.block-item.result (g.A.Asker.count c.args.asker.now) (g.A.Asker.count c.loop-block.asker) (g.A.Asker.count c.puts_of_block.new.asker) c.loop-block-test.true c.block-item.is c.loop-block.invariant.counted (subst (λ G. CountsAtMost (IsAt c.block-item.result.collects.items (λ k. IsCollectRow G c.block-item.result.chain c.args.name.now (collect_of k))) (g.A.Asker.count c.loop-block.asker) (g.A.Asker.count c.puts_of_block.new.asker)) c.loop-block.invariant.graph c.in_ok-more.ensures.counted)))

pub returns-clause-counted : goal.returns-clause-counted
returns-clause-counted g c =
    subst (λ (ks : List QueryBlock). CountsAtMost (IsAt ks (λ b. IsAt b.collects.items (λ k. IsCollectRow (g.A.Asker.graph c.args.asker.now) b.chain c.args.name.now (collect_of k)))) (g.A.Asker.count c.args.asker.now) (g.A.Asker.count c.loop-block.asker)) c.as_slice-blocks.ensures.value (hands_all c.as_slice-blocks.result.now (λ b. IsAt b.collects.items (λ k. IsCollectRow (g.A.Asker.graph c.args.asker.now) b.chain c.args.name.now (collect_of k))) (c.loop-block.block-index) (g.A.Asker.count c.args.asker.now) (g.A.Asker.count c.loop-block.asker) (c.loop-block.invariant.counted))

pub loop-block-init : goal.loop-block-init
loop-block-init g c = record { graph = refl; counted = hands_begin c.as_slice-blocks.result.now (λ b. IsAt b.collects.items (λ k. IsCollectRow (g.A.Asker.graph c.args.asker.now) b.chain c.args.name.now (collect_of k))) (g.A.Asker.count c.args.asker.now); gathered = rw c.new-values.ensures.items (gathered_none (BlockPuts (g.A.Asker.graph c.args.asker.now) c.args.name.now)) }
