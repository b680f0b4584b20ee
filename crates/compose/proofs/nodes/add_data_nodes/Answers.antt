use Rattle.std.proofs.Common.{◌≡◌}
use Rattle.std.proofs.lemmas.Result.{err_from_is_err_and}
use Rattle.sd_value.specs.Names.{Name}
use Rattle.graph_spec.specs.Statement.{Statement}
use Rattle.compose.specs.Stated.{data_node}
use Rattle.compose.proofs.Adding.{each_nil, each_next, each_cut, each_end}
use Rattle.compose.proofs.nodes.add_data_nodes.Goals as goal

pub loop-name-init : goal.loop-name-init
loop-name-init c = each_nil (λ (z : Name) (s : Statement). data_node z ≡ s) c.args.builder.now

pub returns-in_err-add_data_node : goal.returns-in_err-add_data_node
returns-in_err-add_data_node c =
    let p = err_from_is_err_and c.from_residual.result c.from_residual.ensures.1 in
    rw (p.1, p.2)
    (each_cut (λ (z : Name) (s : Statement). data_node z ≡ s) c.args.names.now c.loop-name.name-index c.name-item.result
    c.args.builder.now c.loop-name.builder c.add_data_node.new.builder c.add_data_node.new.builder
    c.in_err-add_data_node.field-0.0 c.loop-name-test.true c.name-item.is c.loop-name.invariant
    c.in_err-add_data_node.ensures)

pub loop-name-preserved : goal.loop-name-preserved
loop-name-preserved c =
    each_next (λ (z : Name) (s : Statement). data_node z ≡ s) c.args.names.now c.loop-name.name-index c.name-item.result
    c.args.builder.now c.loop-name.builder c.add_data_node.new.builder
    c.loop-name-test.true c.name-item.is c.loop-name.invariant c.in_ok-add_data_node.ensures

pub returns : goal.returns
returns c = each_end (λ (z : Name) (s : Statement). data_node z ≡ s) c.args.names.now c.loop-name.name-index
    c.args.builder.now c.loop-name.builder c.loop-name-test.false c.loop-name.invariant
