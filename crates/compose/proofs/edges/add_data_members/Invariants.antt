use Rattle.std.proofs.Common.{◌≡◌, take}
use Rattle.graph_spec.specs.declared.Member.{Member}
use Rattle.graph_spec.specs.Statement.{Statement}
use Rattle.site_spec.specs.Site.{SomeOf}
use Rattle.compose.specs.Adding.{Gains}
use Rattle.compose.specs.Stated.{data_member}
use Rattle.compose.proofs.edges.add_data_members.Given as goal

abbrev pub invariant-loop-member : goal.invariant-loop-member
invariant-loop-member l = Gains (λ (s : Statement). SomeOf (λ (z : Member). data_member z ≡ s)
    (take l.member-index l.members)) l.initial.builder l.builder
