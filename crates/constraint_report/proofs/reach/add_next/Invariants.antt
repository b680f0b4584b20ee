use Rattle.std.proofs.Common.{◌≡◌, take}
use Rattle.sd_value.specs.declared.Term.{Term}
use Rattle.site_spec.specs.Site.{SomeOf}
use Rattle.constraint_report.specs.Links.{Adds, IsNext}
use Rattle.constraint_report.proofs.reach.add_next.Given as goal

abbrev pub invariant-loop-label : goal.invariant-loop-label
invariant-loop-label g l = record {
  own : g.V.SiteView.Own l.view;
  fixed : g.V.SiteView.fixed l.view ≡ g.V.SiteView.fixed l.initial.view;
  added : Adds (λ (t : Term). SomeOf (λ label. IsNext (g.V.SiteView.site (g.V.SiteView.fixed l.initial.view)) l.page label t) (take l.label-index l.labels)) l.initial.found.keys l.found.keys;
}
