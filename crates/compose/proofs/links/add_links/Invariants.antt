use Rattle.std.proofs.Common.{◌≡◌, take}
use Rattle.sd_value.specs.declared.Term.{Term}
use Rattle.graph_spec.specs.Statement.{Statement}
use Rattle.site_spec.specs.Site.{SomeOf}
use Rattle.compose.specs.Adding.{Gains}
use Rattle.compose.specs.Stated.{IsLinkOf}
use Rattle.compose.proofs.links.add_links.Given as goal

abbrev pub invariant-loop-page : goal.invariant-loop-page
invariant-loop-page g l = record {
  own : g.V.SiteView.Own l.view;
  fixed : g.V.SiteView.fixed l.view ≡ g.V.SiteView.fixed l.initial.view;
  added : Gains
      (λ (s : Statement). SomeOf (λ (z : Term). IsLinkOf (g.V.SiteView.site (g.V.SiteView.fixed l.initial.view))
      l.labels z s) (take l.page-index l.pages)) l.initial.builder l.builder;
}
