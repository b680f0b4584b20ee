use Rattle.sd_graph.specs.Built.{empty_built}
use Rattle.sd_graph.proofs.builder.GraphBuilder.new.Goals as goal

pub invariant_of-result : goal.invariant_of-result
invariant_of-result c = (empty_built c.args.limits c.new.result _ _ c.new.ensures c.new-2.ensures c.new-3.ensures, c.requires)
