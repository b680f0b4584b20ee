use Rattle.std.proofs.Common.{◌≡◌, take}
use Rattle.graph_spec.specs.declared.Edge.{Edge}
use Rattle.graph_spec.specs.Statement.{Statement}
use Rattle.site_spec.specs.Site.{SomeOf}
use Rattle.compose.specs.Adding.{Gains}
use Rattle.compose.specs.Stated.{data_edge}
use Rattle.compose.proofs.edges.add_data_edges.Given as goal

abbrev pub invariant-loop-edge : goal.invariant-loop-edge
invariant-loop-edge l = Gains (λ (s : Statement). SomeOf (λ (z : Edge). data_edge z ≡ s) (take l.edge-index l.edges))
    l.initial.builder l.builder
