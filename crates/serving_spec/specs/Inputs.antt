-- What came of one connection in a list of events.
use Rattle.std.specs.Prelude.{◌==◌, ◌&&◌, ℕ, Bool, true, false, List, [], ◌++◌, Option, None, if◌then◌else◌}
use Rattle.std.specs.List.{fold}
use Rattle.http_spec.specs.Streams.{Timed, timed}
use Rattle.happenings.specs.declared.event.WireEvent.{WireEvent}
use Rattle.happenings.specs.declared.event.WireEvent.TheVariants.{Opened, Bytes, Ended, Lost, Change, Done}
use Rattle.serving_spec.specs.Openings.{counts, greatest_after}

-- What came of a connection: nothing, since it was not opened; bytes, and more may come; or bytes that are over, and
-- whether their input has ended or the connection was lost. Each byte has what was current when it came.
pub data Input (D : Type 0) : Type 0 where
  Unopened : Input D
  Coming : List (Timed D) → Input D
  Over : Bool → List (Timed D) → Input D

-- what is current, the greatest number opened, and what came of one connection, after some events
pub record Moment (D : Type 0) : Type 0 where
  pub current : D
  pub greatest : Option ℕ
  pub input : Input D

-- more bytes
abbrev pub more_of : {D : Type 0} → List (Timed D) → Input D → Input D
more_of bytes Unopened = Unopened
more_of bytes (Coming stream) = Coming (stream ++ bytes)
more_of bytes (Over ended stream) = Over ended stream

-- no more bytes
abbrev pub over_of : {D : Type 0} → Bool → Input D → Input D
over_of ended Unopened = Unopened
over_of ended (Coming stream) = Over ended stream
over_of ended (Over before stream) = Over before stream

-- what came of the connection k, with the event
abbrev pub input_after : {D : Type 0} → ℕ → Moment D → WireEvent → Input D
input_after k m (Opened number) =
    if counts m.greatest number && (number == k) then Coming [] else m.input
input_after k m (Bytes number piece) =
    if number == k then more_of (timed m.current piece) m.input else m.input
input_after k m (Ended number) = if number == k then over_of true m.input else m.input
input_after k m (Lost number) = if number == k then over_of false m.input else m.input
input_after k m (Change text) = m.input
input_after k m Done = m.input

-- One event more. next is what an event makes of what is current, k the number of the connection.
abbrev pub after_event : {D : Type 0} → (WireEvent → D → D) → ℕ → Moment D → WireEvent → Moment D
after_event next k m event = record {
  current = next event m.current;
  greatest = greatest_after event m.greatest;
  input = input_after k m event;
}

-- after all the events
abbrev pub moment_after : {D : Type 0} → (WireEvent → D → D) → ℕ → Moment D → List WireEvent
    → Moment D
moment_after next k start events = fold (after_event next k) start events

-- what came of a connection in the events, each byte with what was current then, if this was current at first
abbrev pub input_of : {D : Type 0} → (WireEvent → D → D) → D → ℕ → List WireEvent → Input D
input_of next start number events =
    (moment_after next number (record { current = start; greatest = None; input = Unopened })
    events).input
