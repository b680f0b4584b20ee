-- What was done for the line of a status.
use Rattle.std.specs.Prelude.{◌≡◌, ◌≢◌, ◌⊎◌, ℕ, List, [], ◌∷◌, codes}
use Rattle.happenings.specs.Happening.{Happening, Put, PutFailed}
use Rattle.happenings.specs.declared.stream.Stream.{Stream}
use Rattle.run_report.specs.Report.{line}
use Rattle.run_report.specs.declared.status.Status.{Status}
use Rattle.run_report.specs.declared.status.Status.TheVariants.{Ok, NotAllYes, FileFault}

-- the text was put, whole or cut, by one call
abbrev pub IsOnePut : Stream → List ℕ → List Happening → Type 0
IsOnePut stream text part =
    (part ≡ Put stream text ∷ []) ⊎ ((taken : ℕ) × (part ≡ PutFailed stream text taken ∷ []))

-- the same, and of an empty text nothing
abbrev pub TellsText : Stream → List ℕ → List Happening → Type 0
TellsText stream text part =
    ((text ≡ []) × (part ≡ [])) ⊎ ((text ≢ []) × IsOnePut stream text part)

-- the texts were put, one after another and by one call each, up to one that was cut
abbrev pub ArePut : Stream → List (List ℕ) → List Happening → Type 0
ArePut stream [] part = part ≡ []
ArePut stream (text ∷ texts) part =
    ((rest : List Happening) × (part ≡ Put stream text ∷ rest) × ArePut stream texts rest)
    ⊎ ((taken : ℕ) × (part ≡ PutFailed stream text taken ∷ []))

-- the parts of the line that names a file
abbrev pub file_line : (path : List ℕ) → List (List ℕ)
file_line path = codes "strudel: cannot write " ∷ path ∷ codes "\n" ∷ []

-- the line of the status was put, whole or cut; nothing if it has none
abbrev pub IsTold : Stream → Status → List Happening → Type 0
IsTold stream Ok part = part ≡ []
IsTold stream NotAllYes part = part ≡ []
IsTold stream (FileFault path) part = ArePut stream (file_line path) part
IsTold stream status part = IsOnePut stream (line status) part
