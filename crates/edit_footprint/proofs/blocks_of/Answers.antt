use Rattle.std.proofs.Common.{◌∙◌, sym, ap, map, List, ℕ, Vec, ◌+◌, ◌++◌, drop}
use Rattle.std.proofs.Common.{Global}
use Rattle.query_blocks.specs.declared.QueryBlock.{QueryBlock}
use Rattle.query_blocks.specs.Blocks.{body_of}
use Rattle.edit_footprint.specs.Rests as tests
use Rattle.edit_footprint.specs.Numbers.{numbers_from}
use Rattle.edit_footprint.proofs.Numbers.{step_in, step_out, step_end}
use Rattle.edit_footprint.proofs.blocks_of.Goals as goal
use Rattle.edit_footprint.proofs.blocks_of.Goals.{then-rests_on+in_ok-push, else-rests_on}

pub loop-block-preserved : goal.loop-block-preserved
loop-block-preserved c =
    let test = tests.rests_on c.args.function.now c.args.reads.now.own.items c.args.reads.now.others.items
    c.args.reads.now.collections.items in
    let counted = ap (λ k. k + 1) c.loop-block.invariant.counted in
    elim c.if-rests_on.branch [
      | then-rests_on+in_ok-push w ↦ record {
        counted = counted;
        so_far = ap (λ l. l ++ numbers_from test (c.loop-block.number + 1)
            (map body_of (drop (c.loop-block.block-index + 1) c.as_slice-block-items.result.now)))
            (ap (λ (v : Vec ℕ Global). v.items) w.numbers-is ∙ w.in_ok-push.ensures.items)
            ∙ step_in test c.as_slice-block-items.result.now c.loop-block.block-index c.block-item.result
            c.loop-block.number c.loop-block.numbers.items _ c.loop-block-test.true c.block-item.is
            (sym c.rests_on.ensures ∙ w.if-rests_on.true) c.loop-block.invariant.so_far;
      }
      | else-rests_on w ↦ record {
        counted = counted;
        so_far = ap (λ l. l ++ numbers_from test (c.loop-block.number + 1)
            (map body_of (drop (c.loop-block.block-index + 1) c.as_slice-block-items.result.now)))
            (ap (λ (v : Vec ℕ Global). v.items) w.numbers-is)
            ∙ step_out test c.as_slice-block-items.result.now c.loop-block.block-index c.block-item.result
            c.loop-block.number c.loop-block.numbers.items _ c.loop-block-test.true c.block-item.is
            (sym c.rests_on.ensures ∙ w.if-rests_on.false) c.loop-block.invariant.so_far;
      }
    ]

pub returns : goal.returns
returns c =
    let test = tests.rests_on c.args.function.now c.args.reads.now.own.items c.args.reads.now.others.items
    c.args.reads.now.collections.items in
    step_end test c.as_slice-block-items.result.now c.loop-block.block-index c.loop-block.number
    c.loop-block.numbers.items _ c.loop-block-test.false c.loop-block.invariant.so_far
    ∙ ap (λ (l : List QueryBlock). numbers_from test 0 (map body_of l)) c.as_slice-block-items.ensures.value
