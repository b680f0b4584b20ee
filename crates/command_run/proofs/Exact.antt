-- How a run ends where no count rose.
use Rattle.std.proofs.Common.{◌≡◌, ◌⊎◌, ℕ, List, inl, inr, subst}
use Rattle.std.specs.Prelude.{Option, None, Some}
use Rattle.std.specs.Option.{IsSomeAnd}
use Rattle.edge_io.specs.Files.{FileMap}
use Rattle.edge_io.specs.Counts.{Rose}
use Rattle.run_report.specs.declared.reports.Report.{Report}
use Rattle.run_report.specs.declared.status.Status.{Status}
use Rattle.run_report.specs.declared.status.Status.TheVariants.{WriteFault, NoMemory}
use Rattle.command_spec.specs.declared.ReportCommand.{ReportCommand}
use Rattle.command_spec.specs.declared.ReportCommand.TheVariants.{Check, CheckAll, Lint}
use Rattle.command_spec.specs.declared.Command.{Command}
use Rattle.command_spec.specs.declared.Command.TheVariants as command
use Rattle.site_inputs.specs.Statuses.{ReadRose}
use Rattle.site_inputs.specs.Outside.{Host, Outside, PutsRose, host, outside}
use Rattle.wire.specs.Told.{WireReport}
use Rattle.command_spec.specs.Inputs.{inputs_of_command, inputs_of_report, inputs_of_text, given_inputs}
use Rattle.command_answers.specs.Texts.{TextAnswers}
use Rattle.command_answers.specs.Reports.{HasOneReport, ReportAnswers}
use Rattle.command_answers.proofs.Law.{text_answer_decides, report_answer_decides}
use Rattle.command_run.specs.Top.{AnswerEnds, text_report, Ends, RunEnds, IsExact, IsExactEnd}
use Rattle.command_run.proofs.Answered.{exact_answer}
use Rattle.command_run.proofs.Checked.{exact_check}

module _ (contents : Option FileMap) (before after : Outside) where
  exact_report : (c : ReportCommand) → HasOneReport c → (status : Status) → AnswerEnds (λ report. report) (ReportAnswers before.host.files c) before.host.output after.host.output status
      → ReadRose (inputs_of_report c) before.host.failed_reads after.host.failed_reads status → (status ≡ WriteFault → PutsRose before.host after.host) → IsExactEnd (λ report. report) (ReportAnswers before.host.files c) (inputs_of_report c) before.host after.host status
  exact_report c one status ends read write = exact_answer (λ (r : Report). r) (ReportAnswers before.host.files c) (report_answer_decides before.host.files c one) before.host after.host (inputs_of_report c) status ends read write

  exact_end : (given : Command) (status : Status)
      → Ends given before after status → ReadRose (inputs_of_command given) before.host.failed_reads after.host.failed_reads status → (status ≡ WriteFault → PutsRose before.host after.host) → IsExact given before.host after.host status
  exact_end (command.Text c) status ends read write = exact_answer text_report (TextAnswers before.host.files c) (text_answer_decides before.host.files c) before.host after.host (inputs_of_text c) status ends read write
  exact_end (command.Report (CheckAll c)) status ends read write = exact_check before.host.files c.query c.constraints before.host after.host status ends read write
  exact_end (command.Report (Check c)) status ends read write = exact_report (Check c) tt status ends read write
  exact_end (command.Report (Lint c)) status ends read write = exact_report (Lint c) tt status ends read write
  exact_end (command.Build c) status ends read write = tt
  exact_end (command.Serve c) status ends read write = tt
  exact_end (command.Replay c) status ends read write = tt

  exact_run : (given : Option Command) (command : Command) (status : Status)
      → given ≡ Some command → RunEnds given before after status → ReadRose (given_inputs given) before.host.failed_reads after.host.failed_reads status → (status ≡ WriteFault → PutsRose before.host after.host) → IsExact command before.host after.host status
  exact_run given command status is_given ends read write =
      exact_end command status (subst (λ (g : Option Command). RunEnds g before after status) is_given ends)
      (subst (λ (g : Option Command). ReadRose (given_inputs g) before.host.failed_reads after.host.failed_reads status) is_given read) write

  memory_exact : (given : Command) (reported : Status) → reported ≡ NoMemory → IsExact given before.host after.host reported
  memory_exact (command.Text c) reported memory = λ answer its d no_read no_write. inr memory
  memory_exact (command.Report (CheckAll c)) reported memory = λ all no_put. record {
    all_shown = λ query constraints inputs shown. inr memory;
    not_all_shown = λ query constraints inputs shown. inr memory;
    refused = λ reason ended decided. inr memory;
  }
  memory_exact (command.Report (Check c)) reported memory = λ answer its d no_read no_write. inr memory
  memory_exact (command.Report (Lint c)) reported memory = λ answer its d no_read no_write. inr memory
  memory_exact (command.Build c) reported memory = tt
  memory_exact (command.Serve c) reported memory = tt
  memory_exact (command.Replay c) reported memory = tt

  reported_exact : (command : Command) (status reported : Status)
      → IsExact command before.host after.host status → (reported ≡ status) ⊎ (reported ≡ NoMemory) → IsExact command before.host after.host reported
  reported_exact command status reported exact (inl same) = rw same exact
  reported_exact command status reported exact (inr memory) = memory_exact command reported memory

module _ (reads reads_now writes writes_now : List ℕ → ℕ) (output output_now : Option (List ℕ)) (puts puts_now : ℕ) (wire wire_now : WireReport) where
  abbrev pub Before : FileMap → Outside
  Before map = outside map reads writes output puts wire

  abbrev pub After : FileMap → Outside
  After map = outside map reads_now writes_now output_now puts_now wire_now

  pub exact_told : (o n : Option FileMap) (map : FileMap) (given : Option Command) (command : Command) (status reported : Status)
      → given ≡ Some command → IsSomeAnd n (λ now. RunEnds given (Before map) (After now) status) → ReadRose (given_inputs given) reads reads_now status
      → (status ≡ WriteFault → Rose puts puts_now) → (reported ≡ status) ⊎ (reported ≡ NoMemory)
      → IsSomeAnd n (λ now. IsExact command (host map reads writes output puts) (host now reads_now writes_now output_now puts_now) reported)
  exact_told o None map given command status reported is_given ends read write is = ends
  exact_told o (Some now) map given command status reported is_given ends read write is =
      reported_exact o (Before map) (After now) command status reported (exact_run o (Before map) (After now) given command status is_given ends read write) is
