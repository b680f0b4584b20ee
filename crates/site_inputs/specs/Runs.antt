-- How a part of a run ends: with a value, or with a fault that ends the whole run.
use Rattle.std.specs.Prelude.{◌≡◌, ◌⊎◌, ◌<◌, ◌≤◌, ℕ, List, length, Contains, Result, Ok, Err, IfErr, ⊤}
use Rattle.std.specs.Option.{IsSomeAnd}
use Rattle.edge_io.specs.Counts.{Rose, NoneFell}
use Rattle.edge_io.specs.Files.{FileMap}
use Rattle.run_report.specs.declared.status.Place.TheVariants.{At}
use Rattle.site_inputs.specs.declared.fault.Fault.{Fault}
use Rattle.site_inputs.specs.declared.fault.Fault.TheVariants.{Refused, Unread, NoMemory}

-- the first part gave a value, and with it the second ended so
pub record Both {A B : Type 0} (First : Result A Fault → Type 0)
    (Next : A → Result B Fault → Type 0) (result : Result B Fault) : Type 0 where
  pub value : A
  pub first : First (Ok value)
  pub next : Next value result

-- one part after another: a fault of the first is that of both
abbrev pub Then
    : {A B : Type 0} → (Result A Fault → Type 0) → (A → Result B Fault → Type 0)
    → Result B Fault → Type 0
Then First Next (Ok b) = Both First Next (Ok b)
Then First Next (Err fault) = First (Err fault) ⊎ Both First Next (Err fault)

-- a part that ends with this value, unless it is out of memory
abbrev pub EndsWith : {A : Type 0} → A → Result A Fault → Type 0
EndsWith value result = (result ≡ Ok value) ⊎ (result ≡ Err NoMemory)

-- an unread path is one of those that were asked for, and its count of failed reads rose
abbrev pub UnreadRose : List (List ℕ) → (List ℕ → ℕ) → (List ℕ → ℕ) → Fault → Type 0
UnreadRose paths before now (Unread path) = Contains paths path × Rose (before path) (now path)
UnreadRose paths before now fault = ⊤

-- no count fell, and a path is said to be unread only where it is one of these and its count rose
pub record ReadsHaveCause {T : Type 0} (paths : List (List ℕ)) (before now : List ℕ → ℕ)
    (result : Result T Fault) : Type 0 where
  pub later : NoneFell before now
  pub failed : IfErr result (UnreadRose paths before now)

-- How the bytes of a file end: read whole, refused because they are more than the limit, or unread.
abbrev pub FileEnds : ℕ → FileMap → List ℕ → Result (List ℕ) Fault → Type 0
FileEnds limit map path (Ok bytes) =
    IsSomeAnd (map path) (λ whole. (length whole ≤ limit) × (bytes ≡ whole))
FileEnds limit map path (Err (Refused refusal)) =
    (refusal ≡ record { file = path; number = 24; place = At limit })
    × IsSomeAnd (map path) (λ whole. limit < length whole)
FileEnds limit map path (Err (Unread unread)) = unread ≡ path
FileEnds limit map path (Err NoMemory) = ⊤
FileEnds limit map path (Err fault) = ⊥

-- a fault that the inputs decide, and not the outside or memory that ran out
abbrev pub IsDecidedFault : Fault → Type 0
IsDecidedFault (Unread path) = ⊥
IsDecidedFault NoMemory = ⊥
IsDecidedFault fault = ⊤

-- an end that the inputs decide
abbrev pub IsDecided : {A : Type 0} → Result A Fault → Type 0
IsDecided (Ok value) = ⊤
IsDecided (Err fault) = IsDecidedFault fault

-- Two ends that the inputs decide are one.
pub record Decides {A : Type 0} (Ends : Result A Fault → Type 0) : Type 0 where
  pub once : (one other : Result A Fault)
      → Ends one → Ends other → IsDecided one → IsDecided other → one ≡ other
