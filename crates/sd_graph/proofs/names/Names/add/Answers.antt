use Rattle.sd_graph.proofs.names.Names.add.Goals as goal
use Rattle.std.proofs.Common.{Option, Some, None, List}
use Rattle.std.specs.Option.{IfSome}
use Rattle.std.specs.Prelude.{Contains}
use Rattle.graph_spec.specs.DataGraph.{Name}

latest_stays : (old new : List Name) (latest : Option Name) → ((n : Name) → Contains old n → Contains new n) → IfSome latest (Contains old) → IfSome latest (Contains new)
latest_stays old new None kept h = tt
latest_stays old new (Some l) kept h = kept l h

pub invariant_of-self : goal.invariant_of-self
invariant_of-self c = latest_stays c.self.inside.set.keys c.declare.new.names.keys c.self.inside.latest c.declare.ensures.kept c.self.invariant
