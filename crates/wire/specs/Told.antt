-- What a wire reports of its connections, its events and its failed calls.
use Rattle.std.specs.Prelude.{◌≡◌, ◌≢◌, ℕ, List, Option}
use Rattle.wire.specs.Accounts.{Account}
use Rattle.wire.specs.Events.{Listens, Watches}
use Rattle.happenings.specs.declared.event.WireEvent.{WireEvent}

-- What a wire reports at one moment. An account, the events and the calls of listen are reported or not, each for
-- itself; the counts of failed calls always are.
pub record WireReport : Type 0 where
  -- what was done to each connection
  pub account : ℕ → Option Account
  -- how often the sends to each connection failed
  pub faults : ℕ → ℕ
  -- the events that were given, in their order
  pub given : Option (List WireEvent)
  -- the events that are left, in their order
  pub left : Option (List WireEvent)
  -- the calls of listen
  pub listens : Option Listens
  -- the calls of watch
  pub watches : Option Watches
  -- how often listen, watch and next failed
  pub next_faults : ℕ

-- No event was given, listen and watch were not called and none failed: what changed is of connections alone.
abbrev pub EventsStay : WireReport → WireReport → Type 0
EventsStay before after =
    (after.given ≡ before.given) × (after.left ≡ before.left) × (after.listens ≡ before.listens)
    × (after.next_faults ≡ before.next_faults) × (after.watches ≡ before.watches)

-- nothing was sent to a connection, and none was closed
abbrev pub ConnectionsStay : WireReport → WireReport → Type 0
ConnectionsStay before after = (after.account ≡ before.account) × (after.faults ≡ before.faults)

-- every account is as before, but that of this connection
abbrev pub OtherAccountsStay : ℕ → WireReport → WireReport → Type 0
OtherAccountsStay connection before after =
    (other : ℕ) → other ≢ connection → after.account other ≡ before.account other

-- every count of failed sends is as before, but that of this connection
abbrev pub OtherFaultsStay : ℕ → WireReport → WireReport → Type 0
OtherFaultsStay connection before after =
    (other : ℕ) → other ≢ connection → after.faults other ≡ before.faults other
