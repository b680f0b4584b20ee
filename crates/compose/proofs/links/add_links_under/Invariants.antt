use Rattle.std.proofs.Common.{◌≡◌, take}
use Rattle.sd_value.specs.Names.{Label}
use Rattle.graph_spec.specs.Statement.{Statement}
use Rattle.site_spec.specs.Site.{SomeOf}
use Rattle.compose.specs.Adding.{Gains}
use Rattle.compose.specs.Stated.{IsLinkBy}
use Rattle.compose.proofs.links.add_links_under.Given as goal

abbrev pub invariant-loop-label : goal.invariant-loop-label
invariant-loop-label g l = record {
  own : g.V.SiteView.Own l.view;
  fixed : g.V.SiteView.fixed l.view ≡ g.V.SiteView.fixed l.initial.view;
  added : Gains
      (λ (s : Statement). SomeOf (λ (z : Label). IsLinkBy (g.V.SiteView.site (g.V.SiteView.fixed l.initial.view)) l.page
      l.name z s) (take l.label-index l.labels)) l.initial.builder l.builder;
}
