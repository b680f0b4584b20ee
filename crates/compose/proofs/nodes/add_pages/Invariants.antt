use Rattle.std.proofs.Common.{◌≡◌, take}
use Rattle.sd_value.specs.declared.Term.{Term}
use Rattle.graph_spec.specs.Statement.{Statement}
use Rattle.site_spec.specs.Site.{SomeOf}
use Rattle.compose.specs.Adding.{Gains}
use Rattle.compose.specs.Stated.{page_node}
use Rattle.compose.proofs.nodes.add_pages.Given as goal

abbrev pub invariant-loop-page : goal.invariant-loop-page
invariant-loop-page l = Gains (λ (s : Statement). SomeOf (λ (z : Term). page_node z ≡ s) (take l.page-index l.pages))
    l.initial.builder l.builder
