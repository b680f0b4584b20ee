use Rattle.std.proofs.Common.{◌≡◌, take}
use Rattle.sd_value.specs.Names.{Name}
use Rattle.graph_spec.specs.Statement.{Statement}
use Rattle.site_spec.specs.Site.{SomeOf}
use Rattle.compose.specs.Adding.{Gains}
use Rattle.compose.specs.Stated.{IsPutIn}
use Rattle.compose.proofs.collected.add_collections.Given as goal

abbrev pub invariant-loop-collection : goal.invariant-loop-collection
invariant-loop-collection g l = record {
  own : g.V.SiteView.Own l.view;
  fixed : g.V.SiteView.fixed l.view ≡ g.V.SiteView.fixed l.initial.view;
  added : Gains
      (λ (s : Statement). SomeOf (λ (z : Name). IsPutIn (g.V.SiteView.site (g.V.SiteView.fixed l.initial.view)) z s)
      (take l.collection-index l.collections)) l.initial.builder l.builder;
}
