use Rattle.std.proofs.Common.{◌≡◌, take}
use Rattle.constraint_report.specs.Here.{HoldsIn}
use Rattle.constraint_report.specs.Report.{IsReport}
use Rattle.constraint_report.proofs.report.told.Given as goal

abbrev pub invariant-loop-i : goal.invariant-loop-i
invariant-loop-i g l = record {
  own : g.V.SiteView.Own l.view;
  fixed : g.V.SiteView.fixed l.view ≡ g.V.SiteView.fixed l.fn.view;
  told : IsReport (HoldsIn (g.V.SiteView.site (g.V.SiteView.fixed l.fn.view))) (take l.i l.constraints) l.text.items l.all_met;
}
