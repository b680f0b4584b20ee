-- How all that happens in a run is put together.
use Rattle.std.proofs.Common.{◌≡◌, ◌⊎◌, ℕ, List, [], ◌++◌, refl, sym, ap, subst, ◌∙◌, append_assoc}
use Rattle.std.proofs.lemmas.List.{append-nil}
use Rattle.std.specs.Prelude.{Option, None, Some, Result}
use Rattle.std.specs.Prelude as prelude
use Rattle.edge_io.specs.Files.{FileMap}
use Rattle.happenings.specs.Happening.{Happening}
use Rattle.happenings.specs.declared.stream.Stream.{Stream}
use Rattle.wire.specs.Told.{WireReport}
use Rattle.run_report.specs.Report.{code, IsFixed}
use Rattle.run_report.specs.Told.{IsTold}
use Rattle.run_report.specs.declared.reports.Report.{Report}
use Rattle.run_report.specs.declared.status.Status.{Status}
use Rattle.run_report.specs.declared.status.Status.TheVariants.{Usage, NoMemory}
use Rattle.run_report.proofs.ToldLines.{Grew}
use Rattle.command_spec.specs.Words.{command}
use Rattle.command_spec.specs.declared.Command.{Command}
use Rattle.site_inputs.specs.declared.fault.Fault.{Fault}
use Rattle.site_inputs.specs.Reads.{Reads}
use Rattle.command_run.specs.declared.no_words.NoWords.{NoWords}
use Rattle.command_run.specs.Main.{Words, Seen, status_without, HasEnded}
use Rattle.command_run.specs.IsRun.{AnswerPuts, AnswerCourse, CommandCourse, Course, CourseThenLine, RunCourse, IsRun}

-- the reads, and then the put
pub answer_course : {A : Type 0} (report_of : A → Report) (out : Stream) (Answers : FileMap → Result A Fault → Type 0) (paths : List (List ℕ)) (contents : Option FileMap)
    (before mid now : List Happening) (answer : Result A Fault) (status : Status)
    → Reads paths before mid contents answer (λ map. Answers map answer) → Grew (λ puts. AnswerPuts report_of out answer puts status) mid now
    → Grew (λ course. AnswerCourse report_of out Answers paths contents course status) before now
answer_course report_of out Answers paths contents before mid now answer status r p = (
  r.part ++ p.0,
  p.1 ∙ ap (λ l. l ++ p.0) r.added ∙ append_assoc before r.part p.0,
  record { answer = answer; reads = r.part; puts = p.0; course_is = refl; read = record { part = r.part; added = refl; reads = r.reads; ends = r.ends }; puts_answer = p.2 },
)

module _ (out : Stream) (contents : Option FileMap) (wire wire_now : WireReport) (before now : List Happening) (status : Status) where
  abbrev pub Runs : Command → Type 0
  Runs given = Grew (λ course. CommandCourse out contents wire wire_now given course status) before now

  pub course_of : (given other : Command) → given ≡ other → Runs other → Runs given
  course_of given other is h = subst Runs (sym is) h

  pub given_course : (given : Option Command) (c : Command) → given ≡ Some c → Runs c → Grew (λ course. Course out contents wire wire_now given course status) before now
  given_course given c is h = subst (λ (g : Option Command). Grew (λ course. Course out contents wire wire_now g course status) before now) (sym is) h

-- without a command nothing happens
pub no_course : (out : Stream) (contents : Option FileMap) (wire wire_now : WireReport) (before : List Happening) (given : Option Command) → given ≡ None
    → Grew (λ course. Course out contents wire wire_now given course Usage) before before
no_course out contents wire wire_now before given is =
    subst (λ (g : Option Command). Grew (λ course. Course out contents wire wire_now g course Usage) before before) (sym is)
    ([], sym (append-nil before), (refl, refl))

-- the course, and then the line of the status
pub line_course : (err : Stream) (Ends : List Happening → Status → Type 0) (before mid now : List Happening) (ended reached : Status)
    → Grew (λ course. Ends course ended) before mid → Grew (IsTold err reached) mid now
    → (reached ≡ ended) ⊎ (reached ≡ NoMemory) → (IsFixed ended → reached ≡ ended) → Grew (λ trace. CourseThenLine err Ends trace reached) before now
line_course err Ends before mid now ended reached course told either fixed = (
  course.0 ++ told.0,
  told.1 ∙ ap (λ l. l ++ told.0) course.1 ∙ append_assoc before course.0 told.0,
  record {
    course = course.0;
    last = told.0;
    trace_is = refl;
    ended = ended;
    course_ends = course.2;
    reported = record { either = either; fixed = fixed };
    told = told.2;
  },
)

module _ (out err : Stream) (words : Words) (first last : Seen) (before now : List Happening) (exit : ℕ) (reached : Status) (its_code : exit ≡ code reached) where
  abbrev pub Ran : Words → Type 0
  Ran given = Grew (λ trace. IsRun out err given first last trace exit) before now

  pub run_with : (given : List (List ℕ)) → words ≡ prelude.Ok given → HasEnded (command given) first last reached
      → Grew (λ trace. CourseThenLine err (Course out first.contents first.wire last.wire (command given)) trace reached) before now → Ran words
  run_with given is ended h = subst Ran (sym is) (h.0, h.1, record { reached = reached; its_code = its_code; happens = h.2; ended = ended })

  -- without words nothing happens but that the line is put
  pub run_without : (reason : NoWords) (status : Status) → words ≡ prelude.Err reason → status ≡ status_without reason → HasEnded None first last reached
      → Grew (IsTold err reached) before now → (reached ≡ status) ⊎ (reached ≡ NoMemory) → (IsFixed status → reached ≡ status) → Ran words
  run_without reason status is its ended told either fixed =
      let all : Grew (λ trace. CourseThenLine err (RunCourse out first.contents first.wire last.wire (prelude.Err reason)) trace reached) before now =
      line_course err (RunCourse out first.contents first.wire last.wire (prelude.Err reason)) before before now status reached ([], sym (append-nil before), (its, refl)) told either fixed in
      subst Ran (sym is) (all.0, all.1, record { reached = reached; its_code = its_code; happens = all.2; ended = ended })
