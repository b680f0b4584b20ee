-- What a wire reports of its events and of the calls of listen and watch.
use Rattle.std.specs.Prelude.{◌≡◌, ℕ, Bool, true, false, List, [], ◌∷◌, ◌++◌, Option, Some, None, Result, Ok, Err, ⊤, if◌then◌else◌}
use Rattle.std.specs.List.{list_any}
use Rattle.wire.specs.Accounts.{up}
use Rattle.wire.specs.declared.WireEnd.{WireEnd}
use Rattle.wire.specs.declared.WireEnd.TheVariants.{Failed, NoMemory}
use Rattle.happenings.specs.declared.event.WireEvent.{WireEvent}
use Rattle.happenings.specs.declared.event.WireEvent.TheVariants.{Opened, Bytes, Ended, Lost, Change, Done}

-- how often listen was called, and the arguments of the last call
pub record Listens : Type 0 where
  pub calls : ℕ
  pub port : ℕ
  pub connections : ℕ

-- one more call of listen
abbrev pub add_listen : Option Listens → ℕ → ℕ → Option Listens
add_listen None port connections = None
add_listen (Some before) port connections =
    Some (record { calls = up before.calls; port = port; connections = connections })

-- how often watch was called, and the arguments of the last call
pub record Watches : Type 0 where
  pub calls : ℕ
  pub path : List ℕ
  pub every : ℕ

-- one more call of watch
abbrev pub add_watch : Option Watches → List ℕ → ℕ → Option Watches
add_watch None path every = None
add_watch (Some before) path every =
    Some (record { calls = up before.calls; path = path; every = every })

-- what a call of watch with these arguments does to what is reported of such calls: out of memory nothing
abbrev pub IsWatched : (path : List ℕ) (every : ℕ) → (before after : Option Watches) → Result ⊤ WireEnd
    → Type 0
IsWatched path every before after (Ok unit) = after ≡ add_watch before path every
IsWatched path every before after (Err Failed) = after ≡ add_watch before path every
IsWatched path every before after (Err NoMemory) = after ≡ before

-- the event is the first of those left, or Done where none is left
abbrev pub IsNextOf : Option (List WireEvent) → WireEvent → Option (List WireEvent) → Type 0
IsNextOf None event after = after ≡ None
IsNextOf (Some []) event after = (event ≡ Done) × (after ≡ Some [])
IsNextOf (Some (first ∷ others)) event after = (event ≡ first) × (after ≡ Some others)

-- no more events come
abbrev pub is_done : WireEvent → Bool
is_done (Opened number) = false
is_done (Bytes number piece) = false
is_done (Ended number) = false
is_done (Lost number) = false
is_done (Change text) = false
is_done Done = true

-- One more event was given. After Done nothing is added.
abbrev pub add_event : Option (List WireEvent) → WireEvent → Option (List WireEvent)
add_event None event = None
add_event (Some events) event =
    Some (if list_any is_done events then events else events ++ event ∷ [])

-- these events were drawn, one after another, from those left
abbrev pub IsDrawn : Option (List WireEvent) → List WireEvent → Option (List WireEvent) → Type 0
IsDrawn before [] after = after ≡ before
IsDrawn before (event ∷ events) after =
    (between : Option (List WireEvent)) × IsNextOf before event between
    × IsDrawn between events after
