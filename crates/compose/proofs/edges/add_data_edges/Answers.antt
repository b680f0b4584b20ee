use Rattle.std.proofs.Common.{◌≡◌}
use Rattle.std.proofs.lemmas.Result.{err_from_is_err_and}
use Rattle.graph_spec.specs.declared.Edge.{Edge}
use Rattle.graph_spec.specs.Statement.{Statement}
use Rattle.compose.specs.Stated.{data_edge}
use Rattle.compose.proofs.Adding.{each_nil, each_next, each_cut, each_end}
use Rattle.compose.proofs.edges.add_data_edges.Goals as goal

pub loop-edge-init : goal.loop-edge-init
loop-edge-init c = each_nil (λ (z : Edge) (s : Statement). data_edge z ≡ s) c.args.builder.now

pub returns-in_err-add_data_edge : goal.returns-in_err-add_data_edge
returns-in_err-add_data_edge c =
    let p = err_from_is_err_and c.from_residual.result c.from_residual.ensures.1 in
    rw (p.1, p.2)
    (each_cut (λ (z : Edge) (s : Statement). data_edge z ≡ s) c.args.edges.now c.loop-edge.edge-index c.edge-item.result
    c.args.builder.now c.loop-edge.builder c.add_data_edge.new.builder c.add_data_edge.new.builder
    c.in_err-add_data_edge.field-0.0 c.loop-edge-test.true c.edge-item.is c.loop-edge.invariant
    c.in_err-add_data_edge.ensures)

pub loop-edge-preserved : goal.loop-edge-preserved
loop-edge-preserved c =
    each_next (λ (z : Edge) (s : Statement). data_edge z ≡ s) c.args.edges.now c.loop-edge.edge-index c.edge-item.result
    c.args.builder.now c.loop-edge.builder c.add_data_edge.new.builder
    c.loop-edge-test.true c.edge-item.is c.loop-edge.invariant c.in_ok-add_data_edge.ensures

pub returns : goal.returns
returns c = each_end (λ (z : Edge) (s : Statement). data_edge z ≡ s) c.args.edges.now c.loop-edge.edge-index
    c.args.builder.now c.loop-edge.builder c.loop-edge-test.false c.loop-edge.invariant
