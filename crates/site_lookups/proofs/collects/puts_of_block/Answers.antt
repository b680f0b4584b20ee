use Rattle.std.proofs.Common.{◌∙◌, List, subst}
use Rattle.std.specs.Prelude.{Contains, ◌↔◌}
use Rattle.sd_value.specs.declared.Value.{Value}
use Rattle.struql_ast.specs.declared.Collect.{Collect}
use Rattle.struql_ast.specs.Reading.{collect_of}
use Rattle.site_spec.specs.Site.{IsPut}
use Rattle.sd_value.specs.Gathered.{Gathered}
use Rattle.sd_value.proofs.Gathering.{gathered_next, gathered_end}
use Rattle.std.proofs.Common.{◌+◌, refl}
use Rattle.weight_spec.specs.CountsAtMost.{CountsAtMost, IsAt}
use Rattle.weight_spec.proofs.Handing.{hands_next, hands_all, hands_begin}
use Rattle.site_lookups.specs.Counts.{IsCollectRow}
use Rattle.sd_value.proofs.Gathering.{gathered_none}
use Rattle.site_lookups.proofs.collects.puts_of_block.Goals as goal

pub loop-collect-preserved : goal.loop-collect-preserved
loop-collect-preserved g c =
    let here : (v : Value) → Contains c.in_ok-more.more.items v ↔ IsPut (g.A.Asker.graph c.args.asker.now) c.args.block.now.chain c.args.name.now v (collect_of c.collect-item.result) = subst (λ G. (v : Value) → Contains c.in_ok-more.more.items v ↔ IsPut G c.args.block.now.chain c.args.name.now v (collect_of c.collect-item.result)) c.loop-collect.invariant.graph c.in_ok-more.ensures.values in
    record {
      graph = c.in_ok-more.ensures.graph ∙ c.loop-collect.invariant.graph;
      gathered = rw c.in_ok-append.ensures.items (gathered_next (λ (k : Collect) (v : Value). IsPut (g.A.Asker.graph c.args.asker.now) c.args.block.now.chain c.args.name.now v (collect_of k)) c.as_slice-collects.result.now c.loop-collect.collect-index c.collect-item.result c.loop-collect.values.items c.in_ok-more.more.items c.loop-collect-test.true c.collect-item.is c.loop-collect.invariant.gathered (λ v h. (here v).0 h) (λ v h. (here v).1 h));
      counted = hands_next c.as_slice-collects.result.now (λ k. IsCollectRow (g.A.Asker.graph c.args.asker.now) c.args.block.now.chain c.args.name.now (collect_of k)) c.loop-collect.collect-index c.collect-item.result (g.A.Asker.count c.args.asker.now) (g.A.Asker.count c.loop-collect.asker) (g.A.Asker.count c.puts_of_collect.new.asker) c.loop-collect-test.true c.collect-item.is c.loop-collect.invariant.counted (subst (λ G. CountsAtMost (IsCollectRow G c.args.block.now.chain c.args.name.now (collect_of c.collect-item.result)) (g.A.Asker.count c.loop-collect.asker) (g.A.Asker.count c.puts_of_collect.new.asker)) c.loop-collect.invariant.graph c.in_ok-more.ensures.counted);
    }

pub returns-clause-values : goal.returns-clause-values
returns-clause-values g c = subst (λ (ks : List Collect). Gathered (λ (k : Collect) (v : Value). IsPut (g.A.Asker.graph c.args.asker.now) c.args.block.now.chain c.args.name.now v (collect_of k)) ks c.loop-collect.values.items) c.as_slice-collects.ensures.value (gathered_end (λ (k : Collect) (v : Value). IsPut (g.A.Asker.graph c.args.asker.now) c.args.block.now.chain c.args.name.now v (collect_of k)) c.as_slice-collects.result.now c.loop-collect.collect-index c.loop-collect.values.items c.loop-collect-test.false c.loop-collect.invariant.gathered)

pub returns-in_err-more-clause-counted : goal.returns-in_err-more-clause-counted
returns-in_err-more-clause-counted g c =
    subst (λ (ks : List Collect). CountsAtMost (IsAt ks (λ k. IsCollectRow (g.A.Asker.graph c.args.asker.now) c.args.block.now.chain c.args.name.now (collect_of k))) (g.A.Asker.count c.args.asker.now) (g.A.Asker.count c.puts_of_collect.new.asker)) c.as_slice-collects.ensures.value (hands_all c.as_slice-collects.result.now (λ k. IsCollectRow (g.A.Asker.graph c.args.asker.now) c.args.block.now.chain c.args.name.now (collect_of k)) (c.loop-collect.collect-index + 1) (g.A.Asker.count c.args.asker.now) (g.A.Asker.count c.puts_of_collect.new.asker) (hands_next c.as_slice-collects.result.now (λ k. IsCollectRow (g.A.Asker.graph c.args.asker.now) c.args.block.now.chain c.args.name.now (collect_of k)) c.loop-collect.collect-index c.collect-item.result (g.A.Asker.count c.args.asker.now) (g.A.Asker.count c.loop-collect.asker) (g.A.Asker.count c.puts_of_collect.new.asker) c.loop-collect-test.true c.collect-item.is c.loop-collect.invariant.counted (subst (λ G. CountsAtMost (IsCollectRow G c.args.block.now.chain c.args.name.now (collect_of c.collect-item.result)) (g.A.Asker.count c.loop-collect.asker) (g.A.Asker.count c.puts_of_collect.new.asker)) c.loop-collect.invariant.graph c.in_err-more.ensures.counted)))

pub returns-in_err-append-clause-counted : goal.returns-in_err-append-clause-counted
returns-in_err-append-clause-counted g c =
    subst (λ (ks : List Collect). CountsAtMost (IsAt ks (λ k. IsCollectRow (g.A.Asker.graph c.args.asker.now) c.args.block.now.chain c.args.name.now (collect_of k))) (g.A.Asker.count c.args.asker.now) (g.A.Asker.count c.puts_of_collect.new.asker)) c.as_slice-collects.ensures.value (hands_all c.as_slice-collects.result.now (λ k. IsCollectRow (g.A.Asker.graph c.args.asker.now) c.args.block.now.chain c.args.name.now (collect_of k)) (c.loop-collect.collect-index + 1) (g.A.Asker.count c.args.asker.now) (g.A.Asker.count c.puts_of_collect.new.asker) (hands_next c.as_slice-collects.result.now (λ k. IsCollectRow (g.A.Asker.graph c.args.asker.now) c.args.block.now.chain c.args.name.now (collect_of k)) c.loop-collect.collect-index c.collect-item.result (g.A.Asker.count c.args.asker.now) (g.A.Asker.count c.loop-collect.asker) (g.A.Asker.count c.puts_of_collect.new.asker) c.loop-collect-test.true c.collect-item.is c.loop-collect.invariant.counted (subst (λ G. CountsAtMost (IsCollectRow G c.args.block.now.chain c.args.name.now (collect_of c.collect-item.result)) (g.A.Asker.count c.loop-collect.asker) (g.A.Asker.count c.puts_of_collect.new.asker)) c.loop-collect.invariant.graph c.in_ok-more.ensures.counted)))

pub returns-clause-counted : goal.returns-clause-counted
returns-clause-counted g c =
    subst (λ (ks : List Collect). CountsAtMost (IsAt ks (λ k. IsCollectRow (g.A.Asker.graph c.args.asker.now) c.args.block.now.chain c.args.name.now (collect_of k))) (g.A.Asker.count c.args.asker.now) (g.A.Asker.count c.loop-collect.asker)) c.as_slice-collects.ensures.value (hands_all c.as_slice-collects.result.now (λ k. IsCollectRow (g.A.Asker.graph c.args.asker.now) c.args.block.now.chain c.args.name.now (collect_of k)) (c.loop-collect.collect-index) (g.A.Asker.count c.args.asker.now) (g.A.Asker.count c.loop-collect.asker) (c.loop-collect.invariant.counted))

pub loop-collect-init : goal.loop-collect-init
loop-collect-init g c = record { graph = refl; counted = hands_begin c.as_slice-collects.result.now (λ k. IsCollectRow (g.A.Asker.graph c.args.asker.now) c.args.block.now.chain c.args.name.now (collect_of k)) (g.A.Asker.count c.args.asker.now); gathered = rw c.new-values.ensures.items (gathered_none (λ (k : Collect) (v : Value). IsPut (g.A.Asker.graph c.args.asker.now) c.args.block.now.chain c.args.name.now v (collect_of k))) }
