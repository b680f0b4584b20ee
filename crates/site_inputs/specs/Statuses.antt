-- The status of a run that a fault ends, and what a status says of files and output.
use Rattle.std.specs.Prelude.{ℕ, List, Contains, ⊤}
use Rattle.edge_io.specs.Counts.{Rose}
use Rattle.run_report.specs.declared.status.Status.{Status}
use Rattle.run_report.specs.declared.status.Status.TheVariants.{Ok, Refused, ReadFault, WriteFault, PageFault}
use Rattle.run_report.specs.declared.status.Status.TheVariants.{NoMemory, NotFound, NotAllYes, WireFault, TurnsSpent}
use Rattle.site_inputs.specs.declared.fault.Fault.{Fault}
use Rattle.site_inputs.specs.declared.fault.Fault.TheVariants as fault

-- the status of a command that ends with this fault
abbrev pub status_of : Fault → Status
status_of (fault.Refused refusal) = Refused refusal.file refusal.number refusal.place
status_of (fault.Unread path) = ReadFault path
status_of (fault.Faulty page kind) = PageFault page kind
status_of fault.NotFound = NotFound
status_of fault.NoMemory = NoMemory

-- a fault of reading comes only of one of these paths, and only where its count rose
abbrev pub ReadRose : List (List ℕ) → (List ℕ → ℕ) → (List ℕ → ℕ) → Status → Type 0
ReadRose paths before now (ReadFault path) = Contains paths path × Rose (before path) (now path)
ReadRose paths before now status = ⊤

-- a status at which nothing was put
abbrev pub IsSilent : Status → Type 0
IsSilent Ok = ⊥
IsSilent WriteFault = ⊥
IsSilent NoMemory = ⊥
IsSilent NotAllYes = ⊥
IsSilent WireFault = ⊥
IsSilent TurnsSpent = ⊥
IsSilent status = ⊤
