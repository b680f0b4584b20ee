use Rattle.std.proofs.Common.{◌≡◌, take}
use Rattle.sd_value.specs.Names.{Name}
use Rattle.graph_spec.specs.Statement.{Statement}
use Rattle.site_spec.specs.Site.{SomeOf}
use Rattle.compose.specs.Adding.{Gains}
use Rattle.compose.specs.Stated.{data_node}
use Rattle.compose.proofs.nodes.add_data_nodes.Given as goal

abbrev pub invariant-loop-name : goal.invariant-loop-name
invariant-loop-name l = Gains (λ (s : Statement). SomeOf (λ (z : Name). data_node z ≡ s) (take l.name-index l.names))
    l.initial.builder l.builder
