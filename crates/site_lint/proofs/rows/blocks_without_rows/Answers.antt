use Rattle.std.proofs.Common.{◌↔◌, List, sym, ◌∙◌, subst, arith}
use Rattle.std.specs.Prelude.{IsTrue, Contains}
use Rattle.sd_value.specs.declared.Value.{Value}
use Rattle.graph_spec.specs.DataGraph.{DataGraph}
use Rattle.query_spec.specs.Rows.{IsRow}
use Rattle.query_blocks.specs.declared.QueryBlock.{QueryBlock}
use Rattle.site_lint.proofs.Marks.{rows_more}
use Rattle.site_lint.proofs.rows.blocks_without_rows.Goals as goal

pub is_without_rows-requires : goal.is_without_rows-requires
is_without_rows-requires g c =
    (c.requires c.block-item.result (subst (λ (bs : List QueryBlock). Contains bs c.block-item.result) c.deref-block-items.ensures.value (c.loop-block.block-index, omega arith, sym c.block-item.is))).well_made

pub loop-block-preserved : goal.loop-block-preserved
loop-block-preserved g c = record {
  graph = c.is_without_rows.ensures.graph ∙ c.loop-block.invariant.graph;
  none = rows_more (g.A.Asker.graph c.args.asker.now) c.args.blocks.now.blocks.items c.deref-block-items.result.now c.loop-block.block-index c.block-item.result c.loop-block.marks.items c.push.new.self.items c.in_ok-is_without_rows.field-0 c.deref-block-items.ensures.value (omega arith) c.block-item.is c.loop-block.invariant.none
      (subst (λ (graph : DataGraph). IsTrue c.in_ok-is_without_rows.field-0 ↔ ((row : List Value) → IsRow graph c.block-item.result.chain row → ⊥)) c.loop-block.invariant.graph c.in_ok-is_without_rows.ensures.none)
      c.in_ok-push.ensures.items;
}
