-- What the wire over sockets holds, apart from the sockets, and the order in which its events come.
use Rattle.std.specs.Prelude.{◌≡◌, ◌≢◌, ◌<◌, ◌^◌, ◌-◌, ℕ, List, [], ◌∷◌, Option, Some, None, IsSome, option_map, if◌then◌else◌}
use Rattle.std.specs.declared.net.socket_addr.SocketAddr.{SocketAddr}
use Rattle.std.specs.declared.net.socket_addr.SocketAddr.TheVariants.{V4}
use Rattle.happenings.specs.Happening.{Happening}
use Rattle.wire.specs.Accounts.{up, account_in}
use Rattle.wire.specs.Told.{WireReport}
use Rattle.happenings.specs.declared.event.WireEvent.{WireEvent}
use Rattle.happenings.specs.declared.event.WireEvent.TheVariants.{Opened, Bytes, Ended, Lost, Change, Done}
use Rattle.wire.specs.declared.WireEnd.{WireEnd}
use Rattle.wire.specs.declared.WireEnd.TheVariants.{Failed, NoMemory}
use Rattle.tcp_wire.specs.declared.parting.Parting.{Parting}
use Rattle.tcp_wire.specs.declared.parting.Parting.TheVariants.{Shut, Drained}
use Rattle.tcp_wire.specs.declared.watch.Watch.{Watch}
use Rattle.tcp_wire.specs.Book.{BookState, line_of, let_go, with_opened, TakesPiece, TakesEnd, Replies}
use Rattle.tcp_wire.specs.Replies.{refuses}
use Rattle.tcp_wire.specs.Watching.{passed, IsChanged}

-- what the wire holds
pub record TcpState : Type 0 where
  -- the connections that are open
  pub book : BookState
  -- how often listen, watch and next failed
  pub next_faults : ℕ
  -- the address that it listens at, if it does
  pub address : Option SocketAddr
  -- the file that is watched, if one is
  pub watch : Option Watch

-- what the wire holds, what was done to it since the log was lent to it, and all that was done to its connections
pub record TcpNoted : Type 0 where
  pub state : TcpState
  pub trace : List Happening
  pub history : List Happening

-- the address 127.0.0.1 with this port
abbrev pub local_address : ℕ → SocketAddr
local_address port = V4 (record { ip = record { octets = 127 ∷ 0 ∷ 0 ∷ 1 ∷ [] }; port = port })

-- what the sockets report: only their failed calls, and of the sends that any may have failed
abbrev pub told_of : TcpState → WireReport
told_of w = record {
  account = λ number. None;
  faults = λ number. 2 ^ 64 - 1;
  given = None;
  left = None;
  listens = None;
  watches = None;
  next_faults = w.next_faults;
}

-- what the wire reports: its connections' accounts too
abbrev pub noted_told : TcpNoted → WireReport
noted_told w =
    record (told_of w.state) { account = λ number. Some (account_in w.history number) }

-- the connection of this number is let go, if it is open
abbrev pub goes : (number : ℕ) → TcpState → TcpState
goes number w = record w { book = let_go number w.book }

-- How a connection is parted from that is let go, if it is open: it is drained where its last reply refused a request.
abbrev pub parting_of : ℕ → TcpState → Option Parting
parting_of number w =
    option_map (λ line. if line.progress.refused then Drained else Shut) (line_of w.book number)

-- a reply was sent to a connection that is open
abbrev pub IsSent : (number : ℕ) → (reply : List ℕ) → TcpState → TcpState → Type 0
IsSent number reply w after =
    Replies number (refuses reply) w.book after.book
    × (after ≡ record w { book = after.book })

-- the watched file was looked at, if that was due, and gave no change
abbrev pub without_change : TcpState → TcpState
without_change w = record w { watch = option_map (passed w.book.ended) w.watch }

-- the watched file gives this change
pub record GivesChange (w : TcpState) (text : List ℕ) (after : TcpState) : Type 0 where
  pub watch : Watch
  pub now : Watch
  pub watched : w.watch ≡ Some watch
  pub changed : IsChanged w.book.ended watch text now
  pub is : after ≡ record w { watch = Some now }

-- the next connection is opened, before which the watched file gave no change
pub record Opens (w : TcpState) (number : ℕ) (after : TcpState) : Type 0 where
  pub token : ℕ
  pub some : 0 < w.book.left
  pub next : number ≡ up w.book.opened
  pub is : after ≡ record (without_change w) { book = with_opened token w.book }

-- The next event, of any connection that is open. Connections are opened under the numbers from 1 on, and the watched file
-- may give a change before each. A piece or the end comes of one whose input goes on, a loss of one that is open, and Done
-- where none is open and no more are opened.
abbrev pub IsNextIn : TcpState → WireEvent → TcpState → Type 0
IsNextIn w (Opened number) after = Opens w number after
IsNextIn w (Bytes number piece) after =
    (piece ≢ []) × TakesPiece number w.book after.book
    × (after ≡ record w { book = after.book })
IsNextIn w (Ended number) after =
    TakesEnd number w.book after.book × (after ≡ record w { book = after.book })
IsNextIn w (Lost number) after = IsSome (line_of w.book number) × (after ≡ goes number w)
IsNextIn w (Change text) after = (0 < w.book.left) × GivesChange w text after
IsNextIn w Done after = (w.book.left ≡ 0) × (w.book.lines ≡ []) × (after ≡ w)

-- There is no event: no connection came, or the system failed, which is counted. None is open then. Out of memory costs a
-- connection, which is lost.
abbrev pub MissesNext : TcpState → TcpState → WireEnd → Type 0
MissesNext w after Failed =
    (w.book.lines ≡ []) × (after ≡ record w { next_faults = up w.next_faults })
MissesNext w after NoMemory = ⊥

-- all connections are let go
abbrev pub all_gone : TcpState → TcpState
all_gone w = record w { book = record w.book { lines = [] } }
