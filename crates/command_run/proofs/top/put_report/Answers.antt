use Rattle.run_report.specs.declared.reports.Report.{Report}
use Rattle.command_run.proofs.Answered.{fault_told}
use Rattle.command_run.proofs.Ends.{no_usage}
use Rattle.command_run.proofs.top.put_report.Goals as goal

pub returns-clause-ends : goal.returns-clause-ends
returns-clause-ends g c = fault_told (λ (r : Report). r) c.in-Err.fault c.args.answer _ _ c.in-Err.is c.from.ensures

pub returns-clause-words : goal.returns-clause-words
returns-clause-words g c = no_usage c.in-Err.fault _ c.from.ensures
