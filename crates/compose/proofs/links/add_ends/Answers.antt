use Rattle.std.proofs.Common.{◌≡◌}
use Rattle.std.proofs.lemmas.Result.{err_from_is_err_and}
use Rattle.sd_value.specs.declared.Value.{Value}
use Rattle.graph_spec.specs.Statement.{Statement}
use Rattle.compose.specs.Stated.{link_from}
use Rattle.compose.proofs.Adding.{each_nil, each_next, each_cut, each_end}
use Rattle.compose.proofs.links.add_ends.Goals as goal

pub loop-end-init : goal.loop-end-init
loop-end-init c = each_nil (λ (z : Value) (s : Statement). link_from c.args.from.now c.args.label.now z ≡ s)
    c.args.builder.now

pub returns-in_err-add_link : goal.returns-in_err-add_link
returns-in_err-add_link c =
    let p = err_from_is_err_and c.from_residual.result c.from_residual.ensures.1 in
    rw (p.1, p.2)
    (each_cut (λ (z : Value) (s : Statement). link_from c.args.from.now c.args.label.now z ≡ s) c.args.ends.now
    c.loop-end.end-index c.end-item.result c.args.builder.now c.loop-end.builder c.add_link.new.builder
    c.add_link.new.builder
    c.in_err-add_link.field-0.0 c.loop-end-test.true c.end-item.is c.loop-end.invariant c.in_err-add_link.ensures)

pub loop-end-preserved : goal.loop-end-preserved
loop-end-preserved c =
    each_next (λ (z : Value) (s : Statement). link_from c.args.from.now c.args.label.now z ≡ s) c.args.ends.now
    c.loop-end.end-index c.end-item.result c.args.builder.now c.loop-end.builder c.add_link.new.builder
    c.loop-end-test.true c.end-item.is c.loop-end.invariant c.in_ok-add_link.ensures

pub returns : goal.returns
returns c = each_end (λ (z : Value) (s : Statement). link_from c.args.from.now c.args.label.now z ≡ s) c.args.ends.now
    c.loop-end.end-index c.args.builder.now c.loop-end.builder c.loop-end-test.false c.loop-end.invariant
