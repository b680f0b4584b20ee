use Rattle.std.proofs.Common.{arith, ◌*◌, ℕ, [], ap, sym, subst, ◌∙◌, take}
use Rattle.std.specs.Prelude.{max, map}
use Rattle.struql_ast.specs.Reading.{condition_of}
use Rattle.counterexample_spec.specs.Trial.{rows_after}
use Rattle.trial_size.specs.Cut.{IsCut}
use Rattle.trial_size.proofs.RowsAfter.{rows_more}
use Rattle.trial_size.proofs.condition_rows.Goals as goal

pub loop-i-preserved : goal.loop-i-preserved
loop-i-preserved c =
    let before : ℕ = rows_after c.args.graph.now [] (map condition_of (take c.loop-i.i c.args.conditions.now)) in
    subst (λ (p : ℕ). IsCut p c.times-rows.result) (sym (rows_more c.args.graph.now condition_of c.args.conditions.now c.loop-i.i c.index-conditions-i.result (omega arith) c.index-conditions-i.is))
    (subst (λ (w : ℕ). IsCut (before * w) c.times-rows.result) (c.max.ensures ∙ ap (λ (w : ℕ). max w 1) c.ways.ensures) (c.times-rows.ensures before c.loop-i.invariant))
