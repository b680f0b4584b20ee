-- What a run of `lint` has told.
use Rattle.std.proofs.Common.{◌≡◌, ℕ, List, refl, subst}
use Rattle.std.specs.Prelude.{Option, None, Some}
use Rattle.std.specs.Option.{IsSomeAnd}
use Rattle.edge_io.specs.Files.{FileMap}
use Rattle.run_report.specs.declared.status.Status.{Status}
use Rattle.run_report.specs.declared.status.Status.TheVariants.{Ok, NotAllYes}
use Rattle.site_inputs.specs.Outside.{Outside, outside}
use Rattle.wire.specs.Told.{WireReport}
use Rattle.command_spec.specs.declared.LintCommand.{LintCommand}
use Rattle.command_spec.specs.declared.Command.{Command}
use Rattle.command_spec.specs.declared.Command.TheVariants as command
use Rattle.command_spec.specs.declared.ReportCommand.TheVariants.{Lint}
use Rattle.command_answers.specs.Reports.{ReportAnswers}
use Rattle.command_lint.specs.Law.{TellsFindings}
use Rattle.command_lint.proofs.Law.{tells_findings}
use Rattle.command_run.specs.Top.{AnswerEnds, Ends, RunEnds, HasTold, FindingsAreTold}

-- at a status at which it has told of all that its texts ask for
findings : (map : FileMap) (c : LintCommand) (old new : Option (List ℕ)) (status : Status) → AnswerEnds (λ report. report) (ReportAnswers map (Lint c)) old new status → HasTold status → TellsFindings map c.sources c.query c.templates old new status
findings map c old new Ok ends told =
    tells_findings map c.sources c.query c.templates old new Ok ends.given ends.answer ends.gained (λ ok. ends.verdict, λ met. refl)
findings map c old new NotAllYes ends told =
    tells_findings map c.sources c.query c.templates old new NotAllYes ends.given ends.answer ends.gained (λ ok. absurd cc, λ met. (let none = ends.verdict in absurd cc))
findings map c old new status ends told = absurd told

findings_told : (given : Command) (before after : Outside) (status : Status) → Ends given before after status → FindingsAreTold given before.host.files before.host.output after.host.output status
findings_told (command.Report (Lint c)) before after status ends = findings before.host.files c before.host.output after.host.output status ends
findings_told given before after status ends = tt

module _ (reads reads_now writes writes_now : List ℕ → ℕ) (output output_now : Option (List ℕ)) (puts puts_now : ℕ) (wire wire_now : WireReport) where
  abbrev pub Before : FileMap → Outside
  Before map = outside map reads writes output puts wire

  abbrev pub After : FileMap → Outside
  After map = outside map reads_now writes_now output_now puts_now wire_now

  pub found_told : (n : Option FileMap) (map : FileMap) (given : Option Command) (command : Command) (status : Status) → given ≡ Some command
      → IsSomeAnd n (λ now. RunEnds given (Before map) (After now) status) → FindingsAreTold command map output output_now status
  found_told None map given command status is ends = absurd ends
  found_told (Some now) map given command status is ends =
      findings_told command (Before map) (After now) status (subst (λ (g : Option Command). RunEnds g (Before map) (After now) status) is ends)
