use Rattle.std.proofs.Common.{◌≡◌, ◌-◌, length}
use Rattle.constraint_report.proofs.Reaching.{IsUnderWay}
use Rattle.constraint_report.proofs.reach.reached.Given as goal

abbrev pub invariant-pages : goal.invariant-pages
invariant-pages g l = record {
  own : g.V.SiteView.Own l.view;
  fixed : g.V.SiteView.fixed l.view ≡ g.V.SiteView.fixed l.fn.view;
  way : IsUnderWay (g.V.SiteView.site (g.V.SiteView.fixed l.fn.view)) l.root l.next l.found.keys;
}

abbrev pub decreases-pages : goal.decreases-pages
decreases-pages g l = length l.terms - l.next
