use Rattle.command_spec.specs.Inputs.{inputs_of_report}
use Rattle.command_spec.specs.declared.ReportCommand.TheVariants.{Check, CheckAll, Lint}
use Rattle.site_inputs.proofs.ReadLemmas.{reads_of}
use Rattle.command_answers.specs.Reports.{ReportAnswers}
use Rattle.command_answers.proofs.reports.report_answer.Goals as goal

pub returns-in-Check-clause-traced : goal.returns-in-Check-clause-traced
returns-in-Check-clause-traced g c =
    reads_of inputs_of_report ReportAnswers c.args.command.now (Check c.in-Check.c) _ _ _ c.check_here.result c.in-Check.is c.check_here.ensures.traced

pub returns-in-CheckAll-clause-traced : goal.returns-in-CheckAll-clause-traced
returns-in-CheckAll-clause-traced g c =
    reads_of inputs_of_report ReportAnswers c.args.command.now (CheckAll c.in-CheckAll.c) _ _ _ c.check_all.result c.in-CheckAll.is c.check_all.ensures.traced

pub returns-in-Lint-clause-traced : goal.returns-in-Lint-clause-traced
returns-in-Lint-clause-traced g c =
    reads_of inputs_of_report ReportAnswers c.args.command.now (Lint c.in-Lint.c) _ _ _ c.lint.result c.in-Lint.is c.lint.ensures.traced
