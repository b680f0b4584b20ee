-- What a whole run has done.
use Rattle.std.specs.Prelude.{◌≡◌, ◌⊎◌, ℕ, List, Bool, Contains, Option, Result, IfOk, if◌then◌else◌, ⊤}
use Rattle.std.specs.Prelude as prelude
use Rattle.edge_io.specs.Files.{FileMap}
use Rattle.edge_io.specs.Sink.{Gains, GainsPart}
use Rattle.run_report.specs.declared.reports.Report.{Report}
use Rattle.command_spec.specs.Inputs.{inputs_of_report, inputs_of_text}
use Rattle.command_spec.specs.declared.ReportCommand.{ReportCommand}
use Rattle.command_spec.specs.declared.ReportCommand.TheVariants.{CheckAll, Lint}
use Rattle.command_spec.specs.declared.Command.{Command}
use Rattle.command_spec.specs.declared.Command.TheVariants as command
use Rattle.site_inputs.specs.declared.fault.Fault.{Fault}
use Rattle.site_inputs.specs.declared.fault.Fault.TheVariants as fault
use Rattle.site_inputs.specs.Outside.{Host, Outside, PutsRose, AllRead}
use Rattle.site_inputs.specs.Runs.{IsDecided}
use Rattle.site_inputs.specs.Statuses.{status_of}
use Rattle.command_answers.specs.Texts.{TextAnswers}
use Rattle.command_answers.specs.Reports.{ReportAnswers}
use Rattle.command_build.specs.Ends.{BuildEnds, FileRose}
use Rattle.command_check.specs.Law.{CheckFollows, FindingsHold}
use Rattle.command_lint.specs.Law.{TellsFindings}
use Rattle.command_serve.specs.Ends.{ServeEnds}
use Rattle.command_replay.specs.Ends.{ReplayEnds}
use Rattle.run_report.specs.declared.status.Status.{Status}
use Rattle.run_report.specs.declared.status.Status.TheVariants.{Ok, NotAllYes, Usage, Refused, ReadFault, WriteFault, FileFault}
use Rattle.run_report.specs.declared.status.Status.TheVariants.{WireFault, PageFault, NoMemory, NotFound, TurnsSpent}

-- a text as a report: all is well
abbrev pub text_report : List ℕ → Report
text_report text = record { text = text; passed = prelude.true }

module _ {A : Type 0} (report_of : A → Report) (Answer : Result A Fault → Type 0)
    (old new : Option (List ℕ)) where
  -- the text of an answer was put, with which all is well or not
  pub record Puts (passed : Bool) : Type 0 where
    pub given : A
    pub answer : Answer (prelude.Ok given)
    pub verdict : (report_of given).passed ≡ passed
    pub gained : Gains old new (report_of given).text

  -- a prefix of the text of an answer was put
  pub record PutsPart : Type 0 where
    pub given : A
    pub answer : Answer (prelude.Ok given)
    pub gained : GainsPart old new (report_of given).text

  -- What the run of a command has put that is answered by a text or by a report, and why it has this status: the text was
  -- put, and all is well or not, or the fault that it is answered ended it.
  abbrev pub AnswerEnds : Status → Type 0
  AnswerEnds Ok = Puts prelude.true
  AnswerEnds NotAllYes = Puts prelude.false
  AnswerEnds WriteFault = PutsPart
  AnswerEnds NoMemory = new ≡ old
  AnswerEnds Usage = ⊥
  AnswerEnds WireFault = ⊥
  AnswerEnds TurnsSpent = ⊥
  AnswerEnds (Refused file number place) =
      Answer (prelude.Err (fault.Refused (record { file = file; number = number; place = place })))
  AnswerEnds (ReadFault path) = Answer (prelude.Err (fault.Unread path))
  AnswerEnds (FileFault path) = ⊥
  AnswerEnds (PageFault term kind) = Answer (prelude.Err (fault.Faulty term kind))
  AnswerEnds NotFound = Answer (prelude.Err fault.NotFound)

-- What the run of a command has done to the outside, and why it has this status.
abbrev pub Ends : Command → (before after : Outside) → Status → Type 0
Ends (command.Text c) before after =
    AnswerEnds text_report (TextAnswers before.host.files c) before.host.output after.host.output
Ends (command.Report c) before after =
    AnswerEnds (λ report. report) (ReportAnswers before.host.files c)
    before.host.output after.host.output
Ends (command.Build c) before after = BuildEnds c before.host after.host
Ends (command.Serve c) before after = ServeEnds c before after
Ends (command.Replay c) before after = ReplayEnds c before.host after.host

-- how a run ends: no command, or a command's end
abbrev pub RunEnds : Option Command → (before after : Outside) → Status → Type 0
RunEnds prelude.None before after reached = (reached ≡ Usage) ⊎ (reached ≡ NoMemory)
RunEnds (prelude.Some given) before after reached = Ends given before after reached

-- a command that serves no connections of the wire, or none
abbrev pub UsesNoWire : Option Command → Type 0
UsesNoWire (prelude.Some (command.Serve c)) = ⊥
UsesNoWire given = ⊤

-- a command that writes no file, or none
abbrev pub WritesNoFile : Option Command → Type 0
WritesNoFile (prelude.Some (command.Build c)) = ⊥
WritesNoFile given = ⊤

-- The fault of a file that a build can't write is one of a file of its site, whose count rose. The contents are those of
-- the files before the run, where they are reported.
abbrev pub FileFaultRose
    : Option Command → (contents : Option FileMap) → (before now : List ℕ → ℕ) → Status → Type 0
FileFaultRose (prelude.Some (command.Build c)) contents before now (FileFault path) =
    FileRose contents c before now path
FileFaultRose given contents before now status = ⊤

-- the status of an answer whose text is put whole, with which all is well or not
abbrev pub answer_status : {A : Type 0} → (report_of : A → Report) → Result A Fault → Status
answer_status report_of (prelude.Ok a) = if (report_of a).passed then Ok else NotAllYes
answer_status report_of (prelude.Err stop) = status_of stop

-- Where no count of these files or of the output rose, the run ends with the one answer that the inputs decide, its text
-- put whole, or because it was out of memory.
abbrev pub IsExactEnd
    : {A : Type 0} → (report_of : A → Report) → (Answer : Result A Fault → Type 0)
    → (paths : List (List ℕ)) → (before after : Host) → Status → Type 0
IsExactEnd {A} report_of Answer paths before after reached =
    (answer : Result A Fault) → Answer answer → IsDecided answer
    → AllRead paths before after → ¬ PutsRose before after
    → ((reached ≡ answer_status report_of answer)
    × IfOk answer (λ a. Gains before.output after.output (report_of a).text))
    ⊎ (reached ≡ NoMemory)

-- The same of a command that is answered by a report. Of `check` over every data graph the inputs decide the status, and
-- that a certificate is shown where there is one: which of several isn't said.
abbrev pub IsExactReport : ReportCommand → (before after : Host) → Status → Type 0
IsExactReport (CheckAll c) before after = λ reached.
    AllRead (inputs_of_report (CheckAll c)) before after → ¬ PutsRose before after
    → CheckFollows before.files c.query c.constraints reached
IsExactReport c before after =
    IsExactEnd (λ report. report) (ReportAnswers before.files c) (inputs_of_report c) before after

-- The same of a command and its own files. A build is answered by files, and a run over connections by replies: what the
-- inputs decide of them `IsComplete` says.
abbrev pub IsExact : Command → (before after : Host) → Status → Type 0
IsExact (command.Text c) before after =
    IsExactEnd text_report (TextAnswers before.files c) (inputs_of_text c) before after
IsExact (command.Report c) before after = IsExactReport c before after
IsExact given before after = λ reached. ⊤

-- a status at which a command has told of all constraints, or of all that its texts ask for
abbrev pub HasTold : Status → Type 0
HasTold Ok = ⊤
HasTold NotAllYes = ⊤
HasTold reached = ⊥

-- Each constraint that `check` has answered yes is met in the query's site over every data graph, and each that it has
-- answered no is broken over the graph that it has shown.
abbrev pub AnswersHold : Command → FileMap → (old new : Option (List ℕ)) → Status → Type 0
AnswersHold (command.Report (CheckAll c)) map old new reached =
    HasTold reached → FindingsHold map c.query c.constraints old new reached
AnswersHold given map old new reached = ⊤

-- The output has gained exactly the lines of the findings of `lint`, and its status is 0 exactly where there is none.
abbrev pub FindingsAreTold : Command → FileMap → (old new : Option (List ℕ)) → Status → Type 0
FindingsAreTold (command.Report (Lint c)) map old new reached =
    HasTold reached → TellsFindings map c.sources c.query c.templates old new reached
FindingsAreTold given map old new reached = ⊤
