-- The inputs decide the answer of each command.
use Rattle.edge_io.specs.Files.{FileMap}
use Rattle.command_spec.specs.declared.ReportCommand.{ReportCommand}
use Rattle.command_spec.specs.declared.ReportCommand.TheVariants.{Check, CheckAll, Lint}
use Rattle.command_spec.specs.declared.TextCommand.{TextCommand}
use Rattle.command_spec.specs.declared.TextCommand.TheVariants.{Page, Data, Explain, Schema, Trial, Help, Version}
use Rattle.site_inputs.specs.Runs.{Decides}
use Rattle.command_page.proofs.Law.{page_decides}
use Rattle.command_data.proofs.Law.{text_decides}
use Rattle.command_explain.proofs.Law.{explain_decides}
use Rattle.command_schema.proofs.Law.{schema_decides}
use Rattle.command_check.proofs.Law.{here_decides}
use Rattle.command_lint.proofs.Law.{lint_decides}
use Rattle.command_trial.proofs.Once.{trial_decides}
use Rattle.command_help.proofs.Law.{help_decides, version_decides}
use Rattle.command_answers.specs.Texts.{TextAnswers}
use Rattle.command_answers.specs.Reports.{HasOneReport, ReportAnswers}

pub text_answer_decides : (map : FileMap) (command : TextCommand) → Decides (TextAnswers map command)
text_answer_decides map (Page command) = page_decides map command
text_answer_decides map (Data command) = text_decides map command
text_answer_decides map (Explain command) = explain_decides map command
text_answer_decides map (Schema command) = schema_decides map command
text_answer_decides map (Trial command) = trial_decides command
text_answer_decides map (Help command) = help_decides command
text_answer_decides map Version = version_decides

pub report_answer_decides : (map : FileMap) (command : ReportCommand) → HasOneReport command → Decides (ReportAnswers map command)
report_answer_decides map (Check command) one = here_decides map command.sources command.query command.constraints
report_answer_decides map (CheckAll command) one = absurd one
report_answer_decides map (Lint command) one = lint_decides map command.sources command.query command.templates
