-- The meaning of a wire in memory.
use Rattle.std.specs.Prelude.{◌≡◌, ℕ, ◌==◌, Bool, false, IsSome, ⊤, ◌&&◌, ◌++◌, List, [], ◌∷◌, take, drop, Option}
use Rattle.std.specs.Prelude.{Some, None, if◌then◌else◌, nat_lt}
use Rattle.std.specs.BTreeMap.{is_at}
use Rattle.std.specs.List.{list_any, fold}
use Rattle.std.specs.Map.{lookup}
use Rattle.std.specs.Ordering.{nat_cmp}
use Rattle.happenings.specs.Happening.{Happening}
use Rattle.wire.specs.Accounts.{Account, taken_in, up}
use Rattle.wire.specs.Events.{add_event}
use Rattle.wire.specs.Told.{WireReport}
use Rattle.happenings.specs.declared.event.WireEvent.{WireEvent}
use Rattle.happenings.specs.declared.event.WireEvent.TheVariants.{Opened, Bytes, Ended, Lost, Change, Done}
use Rattle.mem_wire.specs.declared.FailingSend.{FailingSend}
use Rattle.mem_wire.specs.Sent.{Sent}

-- A wire in memory: its events, the calls that fail, and what came of it so far.
pub record WireInMemory : Type 0 where
  -- all events, given or not
  pub events : List WireEvent
  -- how many of them were given; Done is counted once
  pub count : ℕ
  -- the numbers of the calls of `listen`, `watch` and `next` that fail, counted together from 1
  pub failing : List ℕ
  -- the sends that fail
  pub sends : List FailingSend
  -- how often `listen`, `watch` and `next` were called, and how many of these calls failed
  pub calls : ℕ
  pub next_faults : ℕ
  -- how often `listen` was called, and the arguments of its last call
  pub listens : ℕ
  pub port : ℕ
  pub connections : ℕ
  -- how often `watch` was called, and the arguments of its last call
  pub watches : ℕ
  pub path : List ℕ
  pub every : ℕ
  -- what each connection that the events open was sent
  pub entries : List (ℕ × Sent)
  -- memory was refused in a send
  pub is_short : Bool
  -- what was done to it since the log was lent to it
  pub trace : List Happening

-- what the connection was sent, if the events open it
abbrev pub entry_of : WireInMemory → ℕ → Option Sent
entry_of w number = lookup (is_at (nat_cmp number)) w.entries

-- the call of this number fails
abbrev pub is_named : List ℕ → ℕ → Bool
is_named numbers number = list_any (λ n. n == number) numbers

-- how many bytes the send of this number to the connection takes, where it fails: the first entry counts
abbrev pub cut_of : List FailingSend → ℕ → ℕ → Option ℕ
cut_of [] connection number = None
cut_of (s ∷ sends) connection number =
    if (s.connection == connection) && (s.number == number) then Some s.taken else cut_of sends
    connection number

-- the account of a connection
abbrev pub account_of : Option Sent → Option Account
account_of None = None
account_of (Some e) = Some e.account

-- how many sends to a connection failed
abbrev pub faults_of : Option Sent → ℕ
faults_of None = 0
faults_of (Some e) = e.faults

-- the events that were given, and after them Done
abbrev pub given_of : List WireEvent → ℕ → Option (List WireEvent)
given_of events count = fold add_event (Some []) (take count (events ++ Done ∷ []))

-- nothing was sent yet
abbrev pub IsNew : Sent → Type 0
IsNew e = e ≡ record { sends = 0; account = []; closes = 0; faults = 0 }

-- the bytes that were taken
abbrev pub taken_of : Option Sent → List ℕ
taken_of None = []
taken_of (Some e) = taken_in e.account

-- close was called
abbrev pub is_closed : Option Sent → Bool
is_closed None = false
is_closed (Some e) = nat_lt 0 e.closes

-- the account of each connection that the events open
abbrev pub accounts_of : WireInMemory → ℕ → Option Account
accounts_of w number = account_of (entry_of w number)

-- how often the sends to each connection failed
abbrev pub faults_in : WireInMemory → ℕ → ℕ
faults_in w number = faults_of (entry_of w number)

-- what the wire reports, which is everything
abbrev pub told_of : WireInMemory → WireReport
told_of w = record {
  account = accounts_of w;
  faults = faults_in w;
  given = given_of w.events w.count;
  left = Some (drop w.count w.events);
  listens = Some (record { calls = w.listens; port = w.port; connections = w.connections });
  watches = Some (record { calls = w.watches; path = w.path; every = w.every });
  next_faults = w.next_faults;
}

-- the next call of `listen`, `watch` or `next` fails
abbrev pub fails_next : WireInMemory → Bool
fails_next w = is_named w.failing (up w.calls)

-- how many bytes the next send to the connection takes, where it fails
abbrev pub cut_for : List FailingSend → ℕ → Option Sent → Option ℕ
cut_for sends connection None = None
cut_for sends connection (Some e) = cut_of sends connection (up e.sends)

-- the same of the wire as it is
abbrev pub next_cut : WireInMemory → ℕ → Option ℕ
next_cut w connection = cut_for w.sends connection (entry_of w connection)

-- a connection that the event opens is among these
abbrev pub HasEntry : (ℕ → Option Sent) → WireEvent → Type 0
HasEntry entry (Opened number) = IsSome (entry number)
HasEntry entry (Bytes number piece) = ⊤
HasEntry entry (Ended number) = ⊤
HasEntry entry (Lost number) = ⊤
HasEntry entry (Change text) = ⊤
HasEntry entry Done = ⊤

-- which calls and which sends are to fail is as it was
abbrev pub ListsStay : WireInMemory → WireInMemory → Type 0
ListsStay before after = (after.failing ≡ before.failing) × (after.sends ≡ before.sends)
