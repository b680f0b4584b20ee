-- The report of each command that is answered by one.
use Rattle.std.specs.Prelude.{Result, ⊤}
use Rattle.edge_io.specs.Files.{FileMap}
use Rattle.run_report.specs.declared.reports.Report.{Report}
use Rattle.command_spec.specs.declared.ReportCommand.{ReportCommand}
use Rattle.command_spec.specs.declared.ReportCommand.TheVariants.{Check, CheckAll, Lint}
use Rattle.site_inputs.specs.declared.fault.Fault.{Fault}
use Rattle.command_check.specs.Ends.{HereEnds}
use Rattle.command_check.specs.CheckEnds.{CheckEnds}
use Rattle.command_lint.specs.Ends.{LintEnds}

-- the answer of a command: a text and whether all is well, or the fault that it ends with
abbrev pub ReportAnswers : FileMap → ReportCommand → Result Report Fault → Type 0
ReportAnswers map (Check command) = HereEnds map command.sources command.query command.constraints
ReportAnswers map (CheckAll command) = CheckEnds map command.query command.constraints
ReportAnswers map (Lint command) = LintEnds map command.sources command.query command.templates

-- The inputs decide the report: not that of `check` over every data graph, which may show one of several certificates.
abbrev pub HasOneReport : ReportCommand → Type 0
HasOneReport (CheckAll command) = ⊥
HasOneReport command = ⊤
