-- The line of a status that has a part of its own.
use Rattle.std.specs.Prelude.{◌≡◌, ◌++◌, codes, Result, Ok, Err, OnOk, OnErr}
use Rattle.std.proofs.Common.{refl, sym, false, true}
use mathlib.Core.Bool.{true≢false}
use Rattle.run_report.specs.declared.status.Status.{Status}
use Rattle.run_report.specs.declared.status.Status.TheVariants as status
use Rattle.run_report.specs.declared.status.Status.TheVariants.{NotAllYes, Usage, Refused, ReadFault, WriteFault, FileFault, WireFault, PageFault, NoMemory, NotFound, TurnsSpent}
use Rattle.run_report.specs.Report.{line, message, IsFixed}

pub own_line : (s : Status) → (IsFixed s → false ≡ true) → line s ≡ codes "strudel: " ++ message s ++ codes "\n"
own_line status.Ok not = absurd (true≢false (sym (not tt)))
own_line NotAllYes not = absurd (true≢false (sym (not tt)))
own_line s not = refl

-- a put whose count did not rise is whole
pub put_whole : {T E : Type 0} (P R : Type 0) (result : Result T E) → OnOk result P → OnErr result R → (R → ⊥) → P
put_whole P R (Ok x) ok err none = ok
put_whole P R (Err e) ok err none = absurd (none err)
