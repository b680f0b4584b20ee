use Rattle.std.proofs.Common.{arith, ◌≡◌, ap, ◌∙◌}
use Rattle.std.specs.Prelude.{max}
use Rattle.query_spec.specs.Mentions.{same_name}
use Rattle.counterexample_spec.specs.Trial.{starting}
use Rattle.trial_size.proofs.Fans.{fan_more}
use Rattle.trial_size.proofs.fan_out.Goals as goal

pub loop-edge-preserved : goal.loop-edge-preserved
loop-edge-preserved c =
    let greater : c.max-most.result ≡ max c.loop-edge.most c.starting_with.result = omega (arith, c.max-most.ensures) in
    fan_more (λ e. starting c.args.label.now e.from c.args.edges.now) (λ e. same_name e.label c.args.label.now) c.args.edges.now c.loop-edge.edge-index c.edge-item.result c.loop-edge.most c.max-most.result (omega arith) c.edge-item.is c.loop-edge.invariant
    (greater ∙ ap (max c.loop-edge.most) c.starting_with.ensures)
