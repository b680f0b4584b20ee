-- What is put at the end of a run over connections.
use Rattle.std.specs.Prelude.{◌≡◌, ◌⊎◌, ℕ, List, [], ◌∷◌, Option}
use Rattle.edge_io.specs.Sink.{Gains, GainsPart}
use Rattle.happenings.specs.Happening.{Happening, Put, PutFailed}
use Rattle.happenings.specs.declared.stream.Stream.{Stream}
use Rattle.serving_spec.specs.declared.HubEnd.{HubEnd}
use Rattle.serving_spec.specs.declared.HubEnd.TheVariants as end
use Rattle.run_report.specs.Told.{IsOnePut}
use Rattle.run_report.specs.declared.status.Status.{Status}
use Rattle.run_report.specs.declared.status.Status.TheVariants.{Ok, NotAllYes, Usage, Refused, ReadFault, WriteFault, FileFault}
use Rattle.run_report.specs.declared.status.Status.TheVariants.{WireFault, PageFault, NoMemory, NotFound, TurnsSpent}

-- the text was put whole, or the output failed in it
abbrev pub IsPut : Type 0 → Option (List ℕ) → Option (List ℕ) → List ℕ → Type 0
IsPut PutsRose old new text = Gains old new text ⊎ (PutsRose × GainsPart old new text)

-- The status of a run that ended so, whose text this is, and what was put. A fault of the output doesn't change the status
-- of a run that was cut off. Out of memory nothing was put.
abbrev pub EndPuts : HubEnd → List ℕ → Option (List ℕ) → Option (List ℕ) → Type 0 → Status → Type 0
EndPuts ended text old new PutsRose Ok = (ended ≡ end.Done) × Gains old new text
EndPuts ended text old new PutsRose WriteFault = (ended ≡ end.Done) × GainsPart old new text
EndPuts ended text old new PutsRose WireFault =
    (ended ≡ end.WireFailed) × IsPut PutsRose old new text
EndPuts ended text old new PutsRose TurnsSpent =
    (ended ≡ end.TurnsSpent) × IsPut PutsRose old new text
EndPuts ended text old new PutsRose NoMemory = (ended ≡ end.NoMemory) × (new ≡ old)
EndPuts ended text old new PutsRose NotAllYes = ⊥
EndPuts ended text old new PutsRose Usage = ⊥
EndPuts ended text old new PutsRose (Refused file number place) = ⊥
EndPuts ended text old new PutsRose (ReadFault path) = ⊥
EndPuts ended text old new PutsRose (FileFault path) = ⊥
EndPuts ended text old new PutsRose (PageFault term kind) = ⊥
EndPuts ended text old new PutsRose NotFound = ⊥

-- ---- what happened

-- What was put at the end of a run that ended so, whose text this is, where this is its status: out of memory nothing.
abbrev pub EndHappens : HubEnd → Stream → List ℕ → List Happening → Status → Type 0
EndHappens ended stream text part Ok = (ended ≡ end.Done) × (part ≡ Put stream text ∷ [])
EndHappens ended stream text part WriteFault =
    (ended ≡ end.Done) × (taken : ℕ) × (part ≡ PutFailed stream text taken ∷ [])
EndHappens ended stream text part WireFault =
    (ended ≡ end.WireFailed) × IsOnePut stream text part
EndHappens ended stream text part TurnsSpent =
    (ended ≡ end.TurnsSpent) × IsOnePut stream text part
EndHappens ended stream text part NoMemory = (ended ≡ end.NoMemory) × (part ≡ [])
EndHappens ended stream text part NotAllYes = ⊥
EndHappens ended stream text part Usage = ⊥
EndHappens ended stream text part (Refused file number place) = ⊥
EndHappens ended stream text part (ReadFault path) = ⊥
EndHappens ended stream text part (FileFault path) = ⊥
EndHappens ended stream text part (PageFault term kind) = ⊥
EndHappens ended stream text part NotFound = ⊥
