use Rattle.std.proofs.Common.{◌≡◌, take}
use Rattle.std.specs.Prelude.{Contains}
use Rattle.sd_value.specs.declared.Term.{Term}
use Rattle.constraint_report.specs.Links.{Agrees}
use Rattle.constraint_report.proofs.here.holds_here.Given as goal

abbrev pub invariant-loop-page : goal.invariant-loop-page
invariant-loop-page g l = record {
  own : g.V.SiteView.Own l.view;
  fixed : g.V.SiteView.fixed l.view ≡ g.V.SiteView.fixed l.fn.view;
  each : (t : Term) → Contains (take l.page-index l.terms) t → Agrees (g.V.SiteView.site (g.V.SiteView.fixed l.fn.view)) l.constraint t;
}
