-- Ends that inputs decide, and statuses that they can't have.
use Rattle.std.proofs.Common.{◌≡◌, ◌⊎◌, ℕ, List, inl, inr, refl, ap, sym, ◌∙◌}
use Rattle.std.specs.Prelude.{Result, Ok, Err}
use Rattle.edge_io.specs.Files.{FileMap}
use Rattle.run_report.specs.declared.status.Status.{Status}
use Rattle.run_report.specs.declared.status.Status.TheVariants as status
use Rattle.site_inputs.specs.declared.fault.Fault.{Fault}
use Rattle.site_inputs.specs.declared.fault.Fault.TheVariants as fault
use Rattle.site_inputs.specs.Runs.{IsDecidedFault, Decides}
use Rattle.site_inputs.specs.Statuses.{ReadRose, status_of}
use Rattle.site_inputs.specs.Outside.{Host, AllRead, HasStatus}

pub ok_same : {A : Type 0} (a b : A) → ◌≡◌ {A = Result A Fault} (Ok a) (Ok b) → a ≡ b
ok_same a b same = cc

pub err_same : (A : Type 0) (f g : Fault) → ◌≡◌ {A = Result A Fault} (Err f) (Err g) → f ≡ g
err_same A f g same = cc

pub err_ok : {A : Type 0} (f : Fault) (a : A) → ◌≡◌ {A = Result A Fault} (Err f) (Ok a) → ⊥
err_ok f a same = cc

-- inputs that were accepted are not refused
pub not_both : {A : Type 0} (Ends : Result A Fault → Type 0) → Decides Ends → (a : A) (reason : Fault) → Ends (Ok a) → Ends (Err reason) → IsDecidedFault reason → ⊥
not_both Ends decides a reason taken refused decided = err_ok reason a (decides.once (Err reason) (Ok a) refused taken decided tt)

-- the reason that a run ended for, where no read failed: it is the one that the inputs decide, or out of memory
pub by_reason : {A : Type 0} (Ends : Result A Fault → Type 0) → Decides Ends → (paths : List (List ℕ)) (before after : Host) → AllRead paths before after → (given : Fault) → ReadRose paths before.failed_reads after.failed_reads (status_of given) → Ends (Err given)
    → (reason : Fault) → Ends (Err reason) → IsDecidedFault reason → HasStatus (status_of reason) (status_of given)
by_reason {A} Ends decides paths before after all (fault.Refused r) read ended reason refused decided = inl (ap status_of (err_same A (fault.Refused r) reason (decides.once (Err (fault.Refused r)) (Err reason) ended refused tt decided)))
by_reason {A} Ends decides paths before after all (fault.Faulty term kind) read ended reason refused decided = inl (ap status_of (err_same A (fault.Faulty term kind) reason (decides.once (Err (fault.Faulty term kind)) (Err reason) ended refused tt decided)))
by_reason {A} Ends decides paths before after all fault.NotFound read ended reason refused decided = inl (ap status_of (err_same A fault.NotFound reason (decides.once (Err fault.NotFound) (Err reason) ended refused tt decided)))
by_reason Ends decides paths before after all (fault.Unread path) read ended reason refused decided = absurd (all path read.0 read.1)
by_reason Ends decides paths before after all fault.NoMemory read ended reason refused decided = inr refl

-- the reason that a run ended for is no decided one where the inputs were accepted
pub not_refused : {A : Type 0} (Ends : Result A Fault → Type 0) → Decides Ends → (paths : List (List ℕ)) (before after : Host) → AllRead paths before after → (given : Fault) → ReadRose paths before.failed_reads after.failed_reads (status_of given) → Ends (Err given)
    → (a : A) → Ends (Ok a) → status_of given ≡ status.NoMemory
not_refused Ends decides paths before after all (fault.Refused r) read ended a taken = absurd (not_both Ends decides a (fault.Refused r) taken ended tt)
not_refused Ends decides paths before after all (fault.Faulty term kind) read ended a taken = absurd (not_both Ends decides a (fault.Faulty term kind) taken ended tt)
not_refused Ends decides paths before after all fault.NotFound read ended a taken = absurd (not_both Ends decides a fault.NotFound taken ended tt)
not_refused Ends decides paths before after all (fault.Unread path) read ended a taken = absurd (all path read.0 read.1)
not_refused Ends decides paths before after all fault.NoMemory read ended a taken = refl
