use Rattle.std.proofs.Common.{arith}
use Rattle.std.proofs.lemmas.Result.{err_from_is_err_and}
use Rattle.counterexample_spec.specs.Frozen.{declared}
use Rattle.refute_site.proofs.Adding.{item_added, item_stopped, items_added}
use Rattle.refute_site.proofs.statements.add_values.Goals as goal

pub loop-value-preserved : goal.loop-value-preserved
loop-value-preserved c =
    item_added declared c.args.values.now c.loop-value.value-index c.value-item.result (omega arith) c.value-item.is c.args.builder.now c.loop-value.builder c.add_value.new.builder c.loop-value.invariant c.in_ok-add_value.ensures

pub returns-in_err-add_value : goal.returns-in_err-add_value
returns-in_err-add_value c =
    let p = err_from_is_err_and c.from_residual.result c.from_residual.ensures.1 in
    rw (p.1, p.2)
    (item_stopped declared c.args.values.now c.loop-value.value-index c.value-item.result (omega arith) c.value-item.is c.args.builder.now c.loop-value.builder c.add_value.new.builder c.loop-value.invariant c.in_err-add_value.field-0.0 c.in_err-add_value.ensures)

pub returns : goal.returns
returns c = items_added declared c.args.values.now c.loop-value.value-index c.args.builder.now c.loop-value.builder (omega arith) c.loop-value.invariant
