-- A whole run: all that happens outside of it, in its order, and what it leaves.
use Rattle.std.specs.Prelude.{◌≡◌, ◌⊎◌, ℕ, List, [], ◌∷◌, ◌++◌, Option, Result}
use Rattle.std.specs.Prelude as prelude
use Rattle.edge_io.specs.Files.{FileMap}
use Rattle.happenings.specs.Happening.{Happening, Put, PutFailed}
use Rattle.happenings.specs.declared.stream.Stream.{Stream}
use Rattle.wire.specs.Told.{WireReport}
use Rattle.run_report.specs.Report.{code, IsFixed}
use Rattle.run_report.specs.Told.{IsTold}
use Rattle.run_report.specs.declared.reports.Report.{Report}
use Rattle.run_report.specs.declared.status.Status.{Status}
use Rattle.run_report.specs.declared.status.Status.TheVariants.{Usage, WriteFault, NoMemory}
use Rattle.command_spec.specs.Inputs.{inputs_of_report, inputs_of_text}
use Rattle.command_spec.specs.declared.Command.{Command}
use Rattle.command_spec.specs.declared.Command.TheVariants as command
use Rattle.site_inputs.specs.declared.fault.Fault.{Fault}
use Rattle.site_inputs.specs.Reads.{Reads}
use Rattle.site_inputs.specs.Statuses.{status_of}
use Rattle.command_answers.specs.Texts.{TextAnswers}
use Rattle.command_answers.specs.Reports.{ReportAnswers}
use Rattle.command_build.specs.Course.{BuildCourse}
use Rattle.command_serve.specs.Course.{ServeCourse}
use Rattle.command_replay.specs.Course.{ReplayCourse}
use Rattle.command_run.specs.Top.{text_report, answer_status}
use Rattle.command_run.specs.Main.{Words, command_given, status_without, Seen, HasEnded}

module _ {A : Type 0} (report_of : A → Report) (output : Stream) where
  -- What was put of an answer, and the status after it: its text, whole or cut, and of a fault nothing.
  abbrev pub AnswerPuts : Result A Fault → List Happening → Status → Type 0
  AnswerPuts (prelude.Ok a) puts ended =
      ((puts ≡ Put output (report_of a).text ∷ [])
      × (ended ≡ answer_status report_of (prelude.Ok a)))
      ⊎ ((taken : ℕ) × (puts ≡ PutFailed output (report_of a).text taken ∷ [])
      × (ended ≡ WriteFault))
  AnswerPuts (prelude.Err stop) puts ended = (puts ≡ []) × (ended ≡ status_of stop)

  -- What happens where a command is answered by a text or by a report: its files are read, what they have decides an
  -- answer, and the answer is put. What they have is what the files report, or else what the reads gave.
  pub record AnswerCourse (Answers : FileMap → Result A Fault → Type 0) (paths : List (List ℕ))
      (contents : Option FileMap) (course : List Happening) (ended : Status) : Type 0 where
    pub answer : Result A Fault
    pub reads : List Happening
    pub puts : List Happening
    pub course_is : course ≡ reads ++ puts
    pub read : Reads paths [] reads contents answer (λ map. Answers map answer)
    pub puts_answer : AnswerPuts answer puts ended

-- The status that is reported is the one that was reached. Where the line of that one has a part of its own, memory may
-- run out for it: then it is out of memory.
pub record IsReported (ended reached : Status) : Type 0 where
  pub either : (reached ≡ ended) ⊎ (reached ≡ NoMemory)
  pub fixed : IsFixed ended → reached ≡ ended

-- all that happens: such a course, and last the line of the status that is reported
pub record CourseThenLine (errors : Stream) (Ends : List Happening → Status → Type 0)
    (trace : List Happening) (reached : Status) : Type 0 where
  pub course : List Happening
  pub last : List Happening
  pub trace_is : trace ≡ course ++ last
  pub ended : Status
  pub course_ends : Ends course ended
  pub reported : IsReported ended reached
  pub told : IsTold errors reached last

-- A run whose output is this one. Its files report these contents before it, if they report any, and its wire reports
-- this before and after it.
module _ (output : Stream) (contents : Option FileMap) (before after : WireReport) where
  -- what happens where a command is run, and the status that it ends with
  abbrev pub CommandCourse : Command → List Happening → Status → Type 0
  CommandCourse (command.Text c) =
      AnswerCourse text_report output (λ map. TextAnswers map c) (inputs_of_text c) contents
  CommandCourse (command.Report c) =
      AnswerCourse (λ report. report) output (λ map. ReportAnswers map c) (inputs_of_report c)
      contents
  CommandCourse (command.Build c) = BuildCourse c output contents
  CommandCourse (command.Serve c) = ServeCourse c output contents before after
  CommandCourse (command.Replay c) = ReplayCourse c output contents

  -- the same where the words may be wrong: then nothing happens
  abbrev pub Course : Option Command → List Happening → Status → Type 0
  Course (prelude.Some given) course ended = CommandCourse given course ended
  Course prelude.None course ended = (ended ≡ Usage) × (course ≡ [])

  -- the same where there may be no words
  abbrev pub RunCourse : Words → List Happening → Status → Type 0
  RunCourse (prelude.Ok words) course ended =
      Course (command_given (prelude.Ok words)) course ended
  RunCourse (prelude.Err reason) course ended =
      (ended ≡ status_without reason) × (course ≡ [])

-- A run of these words: all that happens in it, in its order, what it leaves, and its exit code, of one status.
pub record IsRun (output errors : Stream) (words : Words) (before after : Seen)
    (trace : List Happening) (exit : ℕ) : Type 0 where
  pub reached : Status
  pub its_code : exit ≡ code reached
  pub happens : CourseThenLine errors
      (RunCourse output before.contents before.wire after.wire words) trace reached
  pub ended : HasEnded (command_given words) before after reached
