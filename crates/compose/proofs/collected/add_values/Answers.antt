use Rattle.std.proofs.lemmas.Result.{err_from_is_err_and}
use Rattle.sd_value.specs.declared.Value.{Value}
use Rattle.graph_spec.specs.Statement.{Statement}
use Rattle.compose.specs.Stated.{IsPutAs}
use Rattle.compose.proofs.Adding.{each_nil, each_next, each_cut, each_end}
use Rattle.compose.proofs.collected.add_values.Goals as goal

pub loop-value-init : goal.loop-value-init
loop-value-init c = each_nil (λ (z : Value) (s : Statement). IsPutAs c.args.collection.now z s) c.args.builder.now

pub returns-in_err-add_value : goal.returns-in_err-add_value
returns-in_err-add_value c =
    let p = err_from_is_err_and c.from_residual.result c.from_residual.ensures.1 in
    rw (p.1, p.2)
    (each_cut (λ (z : Value) (s : Statement). IsPutAs c.args.collection.now z s) c.args.values.now
    c.loop-value.value-index c.value-item.result c.args.builder.now c.loop-value.builder c.add_value.new.builder
    c.add_value.new.builder
    c.in_err-add_value.field-0.0 c.loop-value-test.true c.value-item.is c.loop-value.invariant
    c.in_err-add_value.ensures)

pub loop-value-preserved : goal.loop-value-preserved
loop-value-preserved c =
    each_next (λ (z : Value) (s : Statement). IsPutAs c.args.collection.now z s) c.args.values.now
    c.loop-value.value-index c.value-item.result c.args.builder.now c.loop-value.builder c.add_value.new.builder
    c.loop-value-test.true c.value-item.is c.loop-value.invariant c.in_ok-add_value.ensures

pub returns : goal.returns
returns c = each_end (λ (z : Value) (s : Statement). IsPutAs c.args.collection.now z s) c.args.values.now
    c.loop-value.value-index c.args.builder.now c.loop-value.builder c.loop-value-test.false c.loop-value.invariant
