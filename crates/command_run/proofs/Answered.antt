-- How a run ends that is answered by a text or by a report.
use Rattle.std.proofs.Common.{◌≡◌, ℕ, List, Bool, true, false, cond, inl, inr, refl, sym, ap, subst, ◌∙◌}
use Rattle.std.specs.Prelude.{Option, Result, IfOk, IfErr}
use Rattle.std.specs.Prelude as prelude
use Rattle.edge_io.specs.Sink.{Gains}
use Rattle.run_report.specs.declared.reports.Report.{Report}
use Rattle.site_inputs.specs.declared.fault.Fault.{Fault}
use Rattle.site_inputs.specs.declared.fault.Fault.TheVariants as fault
use Rattle.run_report.specs.declared.status.Status.{Status}
use Rattle.run_report.specs.declared.status.Status.TheVariants.{Ok, NotAllYes, Usage, Refused, ReadFault, WriteFault, FileFault, WireFault, PageFault, NoMemory, NotFound, TurnsSpent}
use Rattle.run_report.specs.Report.{IsFixed}
use Rattle.site_inputs.specs.Outside.{Host, PutsRose}
use Rattle.site_inputs.specs.Runs.{IsDecided, Decides, ReadsHaveCause, UnreadRose}
use Rattle.site_inputs.specs.Statuses.{ReadRose, IsSilent, status_of}
use Rattle.command_run.specs.Top.{AnswerEnds, IsExactEnd, answer_status}

ok_memory : (reported : Status) → reported ≡ Ok → reported ≡ NoMemory → ⊥
ok_memory reported ok memory = cc

not_all_memory : (reported : Status) → reported ≡ NotAllYes → reported ≡ NoMemory → ⊥
not_all_memory reported not_all memory = cc

write_memory : (reported : Status) → reported ≡ WriteFault → reported ≡ NoMemory → ⊥
write_memory reported write memory = cc

module _ {A : Type 0} (report_of : A → Report) where
  -- a command whose answers are told in another way
  pub answer_as : (P Q : Result A Fault → Type 0) (old new : Option (List ℕ)) (status : Status) → ((a : Result A Fault) → P a → Q a) → AnswerEnds report_of P old new status → AnswerEnds report_of Q old new status
  answer_as P Q old new Ok to h = record { given = h.given; answer = to (prelude.Ok h.given) h.answer; verdict = h.verdict; gained = h.gained }
  answer_as P Q old new NotAllYes to h = record { given = h.given; answer = to (prelude.Ok h.given) h.answer; verdict = h.verdict; gained = h.gained }
  answer_as P Q old new WriteFault to h = record { given = h.given; answer = to (prelude.Ok h.given) h.answer; gained = h.gained }
  answer_as P Q old new NoMemory to h = h
  answer_as P Q old new Usage to h = h
  answer_as P Q old new WireFault to h = h
  answer_as P Q old new TurnsSpent to h = h
  answer_as P Q old new (Refused file number place) to h = to _ h
  answer_as P Q old new (ReadFault path) to h = to _ h
  answer_as P Q old new (FileFault path) to h = h
  answer_as P Q old new (PageFault term kind) to h = to _ h
  answer_as P Q old new NotFound to h = to _ h

  -- a fault is told by its status, and nothing is put
  pub fault_told : (stop : Fault) (answer : Result A Fault) (text : Option (List ℕ)) (status : Status) → answer ≡ prelude.Err stop → status ≡ status_of stop → AnswerEnds report_of (λ a. a ≡ answer) text text status
  fault_told stop answer text status is e = subst (AnswerEnds report_of (λ a. a ≡ answer) text text) (sym e) (by stop is)
    where
      by : (stop : Fault) → answer ≡ prelude.Err stop → AnswerEnds report_of (λ a. a ≡ answer) text text (status_of stop)
      by (fault.Refused refusal) is = sym is
      by (fault.Unread path) is = sym is
      by (fault.Faulty term kind) is = sym is
      by fault.NotFound is = sym is
      by fault.NoMemory is = refl

  -- a fault of reading comes from the answer
  pub answer_read_rose : (paths : List (List ℕ)) (answer : Result A Fault) (old new : Option (List ℕ)) (before now : List ℕ → ℕ) (status : Status)
      → AnswerEnds report_of (λ a. a ≡ answer) old new status → ReadsHaveCause paths before now answer → ReadRose paths before now status
  answer_read_rose paths answer old new before now (ReadFault path) h cause =
      let failed : IfErr {T = A} (prelude.Err (fault.Unread path)) (UnreadRose paths before now) = subst (λ (a : Result A Fault). IfErr a (UnreadRose paths before now)) (sym h) cause.failed in
      failed
  answer_read_rose paths answer old new before now status h cause = tt

  -- out of memory for the line of a status: it has a part of its own, so nothing was put
  pub memory_answer_ends : (P : Result A Fault → Type 0) (old new : Option (List ℕ)) (status reported : Status)
      → AnswerEnds report_of P old new status → (IsSilent status → new ≡ old) → (IsFixed status → reported ≡ status) → reported ≡ NoMemory → new ≡ old
  memory_answer_ends P old new Ok reported ends silent fixed memory = absurd (ok_memory reported (fixed tt) memory)
  memory_answer_ends P old new NotAllYes reported ends silent fixed memory = absurd (not_all_memory reported (fixed tt) memory)
  memory_answer_ends P old new WriteFault reported ends silent fixed memory = absurd (write_memory reported (fixed tt) memory)
  memory_answer_ends P old new NoMemory reported ends silent fixed memory = ends
  memory_answer_ends P old new Usage reported ends silent fixed memory = absurd ends
  memory_answer_ends P old new WireFault reported ends silent fixed memory = absurd ends
  memory_answer_ends P old new TurnsSpent reported ends silent fixed memory = absurd ends
  memory_answer_ends P old new status reported ends silent fixed memory = silent tt

  -- ---- where no count rose

  module _ (Answer : Result A Fault → Type 0) (decides : Decides Answer) (before after : Host) where
    abbrev Gained : A → Type 0
    Gained a = Gains before.output after.output (report_of a).text

    -- the run had one answer, and the inputs decide another: they are one
    by_answer : (one answer : Result A Fault) (status : Status) → status ≡ answer_status report_of one → Answer one → IsDecided one → IfOk one Gained → Answer answer → IsDecided answer
        → (status ≡ answer_status report_of answer) × IfOk answer Gained
    by_answer one answer status is ends d gained its e =
        let same : one ≡ answer = decides.once one answer ends its d e in
        (is ∙ ap (answer_status report_of) same, subst (λ (a : Result A Fault). IfOk a Gained) same gained)

    verdict_status : (a : A) (passed : Bool) → (report_of a).passed ≡ passed → cond passed Ok NotAllYes ≡ answer_status report_of (prelude.Ok a)
    verdict_status a passed is = sym (ap (λ (b : Bool). cond b Ok NotAllYes) is)

    pub exact_answer : (paths : List (List ℕ)) (status : Status)
        → AnswerEnds report_of Answer before.output after.output status → ReadRose paths before.failed_reads after.failed_reads status → (status ≡ WriteFault → PutsRose before after)
        → IsExactEnd report_of Answer paths before after status
    exact_answer paths Ok ends read write = λ answer its d no_read no_write. inl (by_answer (prelude.Ok ends.given) answer Ok (verdict_status ends.given true ends.verdict) ends.answer tt ends.gained its d)
    exact_answer paths NotAllYes ends read write = λ answer its d no_read no_write. inl (by_answer (prelude.Ok ends.given) answer NotAllYes (verdict_status ends.given false ends.verdict) ends.answer tt ends.gained its d)
    exact_answer paths Usage ends read write = absurd ends
    exact_answer paths WireFault ends read write = absurd ends
    exact_answer paths TurnsSpent ends read write = absurd ends
    exact_answer paths (Refused file number place) ends read write = λ answer its d no_read no_write.
        inl (by_answer (prelude.Err (fault.Refused (record { file = file; number = number; place = place }))) answer _ refl ends tt tt its d)
    exact_answer paths (ReadFault path) ends read write = λ answer its d no_read no_write. absurd (no_read path read.0 read.1)
    exact_answer paths WriteFault ends read write = λ answer its d no_read no_write. absurd (no_write (write refl))
    exact_answer paths (FileFault path) ends read write = absurd ends
    exact_answer paths (PageFault term kind) ends read write = λ answer its d no_read no_write. inl (by_answer (prelude.Err (fault.Faulty term kind)) answer _ refl ends tt tt its d)
    exact_answer paths NoMemory ends read write = λ answer its d no_read no_write. inr refl
    exact_answer paths NotFound ends read write = λ answer its d no_read no_write. inl (by_answer (prelude.Err fault.NotFound) answer _ refl ends tt tt its d)
