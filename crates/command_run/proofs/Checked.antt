-- How a run of `check` over every data graph ends where no count rose, and that its answers hold.
use Rattle.std.proofs.Common.{◌≡◌, ℕ, List, Bool, true, false, cond, inl, inr, refl, sym, ap, subst, ◌∙◌}
use Rattle.std.specs.Prelude.{Option, None, Some, IsTrue}
use Rattle.std.specs.Prelude as prelude
use Rattle.std.specs.Option.{IsSomeAnd}
use Rattle.edge_io.specs.Files.{FileMap}
use Rattle.run_report.specs.declared.reports.Report.{Report}
use Rattle.site_inputs.specs.declared.fault.Fault.{Fault}
use Rattle.site_inputs.specs.declared.fault.Fault.TheVariants as fault
use Rattle.run_report.specs.declared.status.Status.{Status}
use Rattle.run_report.specs.declared.status.Status.TheVariants.{Ok, NotAllYes, Usage, Refused, ReadFault, WriteFault, FileFault, WireFault, PageFault, NoMemory, NotFound, TurnsSpent}
use Rattle.site_inputs.specs.Outside.{Host, Outside, PutsRose, AllRead, HasStatus, outside}
use Rattle.site_inputs.specs.Runs.{IsDecidedFault, Decides}
use Rattle.site_inputs.specs.Statuses.{ReadRose, status_of}
use Rattle.site_inputs.proofs.Endings.{ok_same, not_both, by_reason}
use Rattle.wire.specs.Told.{WireReport}
use Rattle.command_spec.specs.declared.Command.{Command}
use Rattle.command_spec.specs.declared.Command.TheVariants as command
use Rattle.command_spec.specs.declared.ReportCommand.TheVariants.{CheckAll}
use Rattle.command_spec.specs.Inputs.{check_paths}
use Rattle.command_check.specs.CheckEnds.{CheckEnds}
use Rattle.command_check.specs.Law.{CheckFollows, FindingsHold}
use Rattle.command_check.proofs.Answers.{AnswerEnds as VerdictEnds, answer_ends, answers_decide, inputs_answer, findings_hold}
use Rattle.command_run.specs.Top.{AnswerEnds, Ends, RunEnds, HasTold, AnswersHold}

module _ (map : FileMap) (query_path constraints_path : List ℕ) where
  abbrev Answer : prelude.Result Report Fault → Type 0
  Answer = CheckEnds map query_path constraints_path

  abbrev Whether : prelude.Result Bool Fault → Type 0
  Whether = VerdictEnds map query_path constraints_path

  decides : Decides Whether
  decides = answers_decide map query_path constraints_path

  module _ (before after : Host) where
    abbrev Ended : Status → Type 0
    Ended = AnswerEnds (λ (r : Report). r) Answer before.output after.output

    abbrev Read : Status → Type 0
    Read = ReadRose (check_paths query_path constraints_path) before.failed_reads after.failed_reads

    abbrev All : Type 0
    All = AllRead (check_paths query_path constraints_path) before after

    -- the run's report says whether all are yes as the inputs decide it
    same_answer : (r : Report) (wanted : Bool) → Answer (prelude.Ok r) → Whether (prelude.Ok wanted) → r.passed ≡ wanted
    same_answer r wanted ends its =
        ok_same r.passed wanted (decides.once (prelude.Ok r.passed) (prelude.Ok wanted) (answer_ends map query_path constraints_path (prelude.Ok r) ends) its tt tt)

    -- inputs that are accepted are not refused
    no_fault : (reason : Fault) (wanted : Bool) → Answer (prelude.Err reason) → Whether (prelude.Ok wanted) → IsDecidedFault reason → ⊥
    no_fault reason wanted ends its d = not_both Whether decides wanted reason its (answer_ends map query_path constraints_path (prelude.Err reason) ends) d

    accepted : (wanted : Bool) → Whether (prelude.Ok wanted) → (status : Status) → Ended status → Read status → (status ≡ WriteFault → PutsRose before after) → All → ¬ PutsRose before after → HasStatus (cond wanted Ok NotAllYes) status
    accepted wanted its Ok ends read write all no_put = inl (ap (λ (b : Bool). cond b Ok NotAllYes) (sym ends.verdict ∙ same_answer ends.given wanted ends.answer its))
    accepted wanted its NotAllYes ends read write all no_put = inl (ap (λ (b : Bool). cond b Ok NotAllYes) (sym ends.verdict ∙ same_answer ends.given wanted ends.answer its))
    accepted wanted its Usage ends read write all no_put = absurd ends
    accepted wanted its WireFault ends read write all no_put = absurd ends
    accepted wanted its TurnsSpent ends read write all no_put = absurd ends
    accepted wanted its (Refused file number place) ends read write all no_put = absurd (no_fault (fault.Refused (record { file = file; number = number; place = place })) wanted ends its tt)
    accepted wanted its (ReadFault path) ends read write all no_put = absurd (all path read.0 read.1)
    accepted wanted its WriteFault ends read write all no_put = absurd (no_put (write refl))
    accepted wanted its (FileFault path) ends read write all no_put = absurd ends
    accepted wanted its (PageFault term kind) ends read write all no_put = absurd (no_fault (fault.Faulty term kind) wanted ends its tt)
    accepted wanted its NoMemory ends read write all no_put = inr refl
    accepted wanted its NotFound ends read write all no_put = absurd (no_fault fault.NotFound wanted ends its tt)

    by_fault : (given reason : Fault) → Answer (prelude.Err given) → Read (status_of given) → All → Answer (prelude.Err reason) → IsDecidedFault reason → HasStatus (status_of reason) (status_of given)
    by_fault given reason ends read all its d =
        by_reason Whether decides (check_paths query_path constraints_path) before after all given read
        (answer_ends map query_path constraints_path (prelude.Err given) ends) reason (answer_ends map query_path constraints_path (prelude.Err reason) its) d

    -- a report was made, so no input was refused
    no_report : (r : Report) (reason : Fault) → Answer (prelude.Ok r) → Answer (prelude.Err reason) → IsDecidedFault reason → ⊥
    no_report r reason ends its d = no_fault reason r.passed its (answer_ends map query_path constraints_path (prelude.Ok r) ends) d

    refused : (reason : Fault) → Answer (prelude.Err reason) → IsDecidedFault reason → (status : Status) → Ended status → Read status → (status ≡ WriteFault → PutsRose before after) → All → ¬ PutsRose before after → HasStatus (status_of reason) status
    refused reason its d Ok ends read write all no_put = absurd (no_report ends.given reason ends.answer its d)
    refused reason its d NotAllYes ends read write all no_put = absurd (no_report ends.given reason ends.answer its d)
    refused reason its d Usage ends read write all no_put = absurd ends
    refused reason its d WireFault ends read write all no_put = absurd ends
    refused reason its d TurnsSpent ends read write all no_put = absurd ends
    refused reason its d (Refused file number place) ends read write all no_put = by_fault (fault.Refused (record { file = file; number = number; place = place })) reason ends tt all its d
    refused reason its d (ReadFault path) ends read write all no_put = absurd (all path read.0 read.1)
    refused reason its d WriteFault ends read write all no_put = absurd (no_put (write refl))
    refused reason its d (FileFault path) ends read write all no_put = absurd ends
    refused reason its d (PageFault term kind) ends read write all no_put = by_fault (fault.Faulty term kind) reason ends tt all its d
    refused reason its d NoMemory ends read write all no_put = inr refl
    refused reason its d NotFound ends read write all no_put = by_fault fault.NotFound reason ends tt all its d

    pub exact_check : (status : Status) → Ended status → Read status → (status ≡ WriteFault → PutsRose before after)
        → All → ¬ PutsRose before after → CheckFollows map query_path constraints_path status
    exact_check status ends read write = λ all no_put. record {
      all_shown = λ query constraints inputs shown.
          accepted true (inputs_answer map query_path constraints_path query constraints true inputs (λ wanted. shown, λ s. refl)) status ends read write all no_put;
      not_all_shown = λ query constraints inputs not_shown.
          accepted false (inputs_answer map query_path constraints_path query constraints false inputs (λ wanted. absurd cc, λ s. absurd (not_shown s))) status ends read write all no_put;
      refused = λ reason its d. refused reason its d status ends read write all no_put;
    }

  -- what was told holds
  holds : (old new : Option (List ℕ)) (status : Status) → AnswerEnds (λ (r : Report). r) Answer old new status → HasTold status → FindingsHold map query_path constraints_path old new status
  holds old new Ok ends told = findings_hold map query_path constraints_path old new Ok ends.given ends.answer ends.gained (λ ok. ends.verdict)
  holds old new NotAllYes ends told = findings_hold map query_path constraints_path old new NotAllYes ends.given ends.answer ends.gained (λ ok. absurd cc)
  holds old new status ends told = absurd told

answers_hold : (given : Command) (before after : Outside) (status : Status) → Ends given before after status → AnswersHold given before.host.files before.host.output after.host.output status
answers_hold (command.Report (CheckAll c)) before after status ends = holds before.host.files c.query c.constraints before.host.output after.host.output status ends
answers_hold given before after status ends = tt

module _ (reads reads_now writes writes_now : List ℕ → ℕ) (output output_now : Option (List ℕ)) (puts puts_now : ℕ) (wire wire_now : WireReport) where
  abbrev pub Before : FileMap → Outside
  Before map = outside map reads writes output puts wire

  abbrev pub After : FileMap → Outside
  After map = outside map reads_now writes_now output_now puts_now wire_now

  pub held_told : (n : Option FileMap) (map : FileMap) (given : Option Command) (command : Command) (status : Status) → given ≡ Some command
      → IsSomeAnd n (λ now. RunEnds given (Before map) (After now) status) → AnswersHold command map output output_now status
  held_told None map given command status is ends = absurd ends
  held_told (Some now) map given command status is ends =
      answers_hold command (Before map) (After now) status (subst (λ (g : Option Command). RunEnds g (Before map) (After now) status) is ends)
