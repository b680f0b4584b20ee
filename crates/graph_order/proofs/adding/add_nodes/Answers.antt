use Rattle.std.proofs.Common.{[], ◌∷◌, Err, refl}
use Rattle.std.proofs.lemmas.Result.{err_from_is_err_and}
use Rattle.graph_spec.specs.DataGraph.{Name}
use Rattle.graph_spec.specs.Statement.{a_node}
use Rattle.graph_order.proofs.Growth.{each_next, each_cut, each_end, singles_cut, singles_end, puts_one}
use Rattle.graph_order.proofs.adding.add_nodes.Goals as goal

pub loop-name-init : goal.loop-name-init
loop-name-init c = refl

pub returns-in_err-add_node : goal.returns-in_err-add_node
returns-in_err-add_node c =
    let p = err_from_is_err_and c.from_residual.result c.from_residual.ensures.1 in
    rw (p.1, p.2)
    (singles_cut (λ (x : Name). a_node x) c.args.names.now c.args.builder.now c.add_node.new.self c.in_err-add_node.field-0.0
    (each_cut (λ (x : Name). a_node x ∷ []) c.args.names.now c.loop-name.name-index c.name-item.result
    c.args.builder.now c.loop-name.builder c.add_node.new.self c.add_node.new.self c.in_err-add_node.field-0.0
    c.loop-name-test.true c.name-item.is c.loop-name.invariant
    (puts_one (a_node c.name-item.result) c.loop-name.builder c.add_node.new.self (Err c.in_err-add_node.field-0.0) c.in_err-add_node.ensures)))

pub loop-name-preserved : goal.loop-name-preserved
loop-name-preserved c =
    each_next (λ (x : Name). a_node x ∷ []) c.args.names.now c.loop-name.name-index c.name-item.result
    c.args.builder.now c.loop-name.builder c.add_node.new.self
    c.loop-name-test.true c.name-item.is c.loop-name.invariant c.in_ok-add_node.ensures.0

pub returns : goal.returns
returns c = singles_end (λ (x : Name). a_node x) c.args.names.now c.args.builder.now c.loop-name.builder
    (each_end (λ (x : Name). a_node x ∷ []) c.args.names.now c.loop-name.name-index
    c.args.builder.now c.loop-name.builder c.loop-name-test.false c.loop-name.invariant)
