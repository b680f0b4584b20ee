use Rattle.std.proofs.Common.{◌≡◌, take}
use Rattle.sd_value.specs.declared.Value.{Value}
use Rattle.graph_spec.specs.Statement.{Statement}
use Rattle.site_spec.specs.Site.{SomeOf}
use Rattle.compose.specs.Adding.{Gains}
use Rattle.compose.specs.Stated.{link_from}
use Rattle.compose.proofs.links.add_ends.Given as goal

abbrev pub invariant-loop-end : goal.invariant-loop-end
invariant-loop-end l = Gains (λ (s : Statement). SomeOf (λ (z : Value). link_from l.from l.label z ≡ s)
    (take l.end-index l.ends)) l.initial.builder l.builder
