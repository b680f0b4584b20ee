use Rattle.std.proofs.Common.{arith, ◌+◌, ◌-◌, ◌^◌, ℕ, List, ap, refl, sym, subst, take}
use Rattle.std.specs.Prelude.{Contains, sum_by}
use Rattle.sd_value.specs.Members.{among_at}
use Rattle.query_spec.specs.Query.{Chain}
use Rattle.query_blocks.specs.Blocks.{body_of}
use Rattle.query_blocks.specs.declared.QueryBlock.{QueryBlock}
use Rattle.counterexample_spec.specs.Trial.{rows_bound}
use Rattle.trial_size.specs.Cut.{IsCut}
use Rattle.trial_size.proofs.Cut.{sum_cut, one_more_term, all_terms, sum_by-map}
use Rattle.trial_size.proofs.all_rows.Goals as goal

pub rows-requires : goal.rows-requires
rows-requires c =
    ap (λ (ch : Chain). ch.variables)
    (c.requires c.block-item.result
    (subst (λ l. Contains l c.block-item.result) c.deref-block-items.ensures.value
    (among_at c.deref-block-items.result.now c.loop-block.block-index c.block-item.result c.block-item.result (omega arith) c.block-item.is refl))).chain

pub loop-block-preserved : goal.loop-block-preserved
loop-block-preserved c =
    let f : QueryBlock → ℕ = λ b. rows_bound c.args.graph.now b.chain.conditions in
    subst (λ (l : List QueryBlock). IsCut (sum_by f (take (c.loop-block.block-index + 1) l)) c.saturating_add-all.result) c.deref-block-items.ensures.value
    (one_more_term f c.deref-block-items.result.now c.loop-block.block-index c.block-item.result c.saturating_add-all.result (omega arith) c.block-item.is
    (sum_cut (f c.block-item.result) (sum_by f (take c.loop-block.block-index c.deref-block-items.result.now)) c.rows.result c.loop-block.all (2 ^ 64 - 1) c.saturating_add-all.result (omega arith) c.saturating_add-all.ensures c.rows.ensures
    (subst (λ (l : List QueryBlock). IsCut (sum_by f (take c.loop-block.block-index l)) c.loop-block.all) (sym c.deref-block-items.ensures.value) c.loop-block.invariant)))

pub returns : goal.returns
returns c =
    let f : QueryBlock → ℕ = λ b. rows_bound c.args.graph.now b.chain.conditions in
    subst (λ (n : ℕ). IsCut n c.loop-block.all) (sym (sum_by-map (λ b. rows_bound c.args.graph.now b.conditions) body_of c.args.blocks.now.blocks.items))
    (all_terms f c.args.blocks.now.blocks.items c.loop-block.block-index c.loop-block.all (rw (sym c.deref-block-items.ensures.value) c.loop-block-test.false) c.loop-block.invariant)
