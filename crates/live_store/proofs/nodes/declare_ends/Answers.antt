use Rattle.std.proofs.Common.{◌≡◌}
use Rattle.graph_spec.specs.DataGraph.{node}
use Rattle.live_store.proofs.Names.{names_then}
use Rattle.live_store.proofs.nodes.declare_ends.Goals as goal

pub returns-in-Ok-clause-new : goal.returns-in-Ok-clause-new
returns-in-Ok-clause-new c = names_then c.args.base.now (λ n. n ≡ c.args.edge.now.from) (λ n. c.args.edge.now.to ≡ node n)
    c.args.names.now.keys c.add_name.new.names.keys c.add_end.new.names.keys c.in_ok-start.ensures.new c.in-Ok.ensures.new
