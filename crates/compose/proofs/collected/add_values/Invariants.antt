use Rattle.std.proofs.Common.{take}
use Rattle.sd_value.specs.declared.Value.{Value}
use Rattle.graph_spec.specs.Statement.{Statement}
use Rattle.site_spec.specs.Site.{SomeOf}
use Rattle.compose.specs.Adding.{Gains}
use Rattle.compose.specs.Stated.{IsPutAs}
use Rattle.compose.proofs.collected.add_values.Given as goal

abbrev pub invariant-loop-value : goal.invariant-loop-value
invariant-loop-value l = Gains (λ (s : Statement). SomeOf (λ (z : Value). IsPutAs l.collection z s)
    (take l.value-index l.values)) l.initial.builder l.builder
