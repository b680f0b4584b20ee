use Rattle.constraint_report.proofs.Alike.{holds_alike}
use Rattle.constraint_report.proofs.laws.a_site_holds_what_it_meets.Goals as goal

pub returns : goal.returns
returns c = holds_alike
