use Rattle.std.proofs.Common.{[], ◌∷◌, Err, refl}
use Rattle.std.proofs.lemmas.Result.{err_from_is_err_and}
use Rattle.graph_spec.specs.declared.Edge.{Edge}
use Rattle.sd_value.specs.Members.{among_at}
use Rattle.graph_order.specs.Adding.{stated_edge}
use Rattle.graph_order.proofs.Growth.{each_next, each_cut, each_end, singles_cut, singles_end, puts_one}
use Rattle.graph_order.proofs.adding.add_edges.Goals as goal

pub add_edge-requires : goal.add_edge-requires
add_edge-requires c = c.requires c.edge-item.result (among_at c.args.edges.now c.loop-edge.edge-index c.edge-item.result c.edge-item.result c.loop-edge-test.true c.edge-item.is refl)

pub loop-edge-init : goal.loop-edge-init
loop-edge-init c = refl

pub returns-in_err-add_edge : goal.returns-in_err-add_edge
returns-in_err-add_edge c =
    let p = err_from_is_err_and c.from_residual.result c.from_residual.ensures.1 in
    rw (p.1, p.2)
    (singles_cut (λ (x : Edge). stated_edge x) c.args.edges.now c.args.builder.now c.add_edge.new.self c.in_err-add_edge.field-0.0
    (each_cut (λ (x : Edge). stated_edge x ∷ []) c.args.edges.now c.loop-edge.edge-index c.edge-item.result
    c.args.builder.now c.loop-edge.builder c.add_edge.new.self c.add_edge.new.self c.in_err-add_edge.field-0.0
    c.loop-edge-test.true c.edge-item.is c.loop-edge.invariant
    (puts_one (stated_edge c.edge-item.result) c.loop-edge.builder c.add_edge.new.self (Err c.in_err-add_edge.field-0.0) c.in_err-add_edge.ensures)))

pub loop-edge-preserved : goal.loop-edge-preserved
loop-edge-preserved c =
    each_next (λ (x : Edge). stated_edge x ∷ []) c.args.edges.now c.loop-edge.edge-index c.edge-item.result
    c.args.builder.now c.loop-edge.builder c.add_edge.new.self
    c.loop-edge-test.true c.edge-item.is c.loop-edge.invariant c.in_ok-add_edge.ensures.0

pub returns : goal.returns
returns c = singles_end (λ (x : Edge). stated_edge x) c.args.edges.now c.args.builder.now c.loop-edge.builder
    (each_end (λ (x : Edge). stated_edge x ∷ []) c.args.edges.now c.loop-edge.edge-index
    c.args.builder.now c.loop-edge.builder c.loop-edge-test.false c.loop-edge.invariant)
