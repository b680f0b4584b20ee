-- What happened outside of a run. A call that failed happened too.
use Rattle.std.specs.Prelude.{ℕ, List}
use Rattle.happenings.specs.declared.event.WireEvent.{WireEvent}
use Rattle.happenings.specs.declared.stream.Stream.{Stream}

-- one call of the outside, with what it was given and what it answered
pub data Happening : Type 0 where
  -- the file at the path was read and gave these bytes, or the read failed
  Read : (path bytes : List ℕ) → Happening
  ReadFailed : (path : List ℕ) → Happening
  -- the file at the path was given these bytes, or had them already and stayed as it was, or the write failed
  Wrote : (path bytes : List ℕ) → Happening
  Kept : (path bytes : List ℕ) → Happening
  WriteFailed : (path : List ℕ) → Happening
  -- the file at the path was removed, or that failed
  Removed : (path : List ℕ) → Happening
  RemoveFailed : (path : List ℕ) → Happening
  -- the output took this text, or the put failed after so many of its bytes
  Put : (stream : Stream) (text : List ℕ) → Happening
  PutFailed : (stream : Stream) (text : List ℕ) (taken : ℕ) → Happening
  -- The wire was let watch the file, or that failed. What it reads of the file later is part of how it makes its events.
  Watched : (path : List ℕ) (every : ℕ) → Happening
  WatchFailed : (path : List ℕ) (every : ℕ) → Happening
  -- the wire was let listen at the port for so many connections, or that failed
  Listened : (port connections : ℕ) → Happening
  ListenFailed : (port connections : ℕ) → Happening
  -- the wire was asked for the next event and gave this one, or none
  Given : (event : WireEvent) → Happening
  NextFailed : Happening
  -- the connection took these bytes, or the send failed after so many of them
  Sent : (connection : ℕ) (bytes : List ℕ) → Happening
  SendFailed : (connection : ℕ) (bytes : List ℕ) (taken : ℕ) → Happening
  -- the connection was closed
  Closed : (connection : ℕ) → Happening
  -- the wire was let send what connections had still to take, and let go of them all
  Finished : Happening
