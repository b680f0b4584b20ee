-- The account of a connection: what was done to it, and what sends and closes add.
use Rattle.std.specs.Prelude.{◌==◌, ◌+◌, ◌-◌, ◌^◌, ℕ, zero, suc, min, List, [], ◌∷◌, ◌++◌, take, Option, Some, None, if◌then◌else◌}
use Rattle.std.specs.List.{flat_map}
use Rattle.happenings.specs.Happening.{Happening, Read, ReadFailed, Wrote, WriteFailed, Put, PutFailed, Watched}
use Rattle.happenings.specs.Happening.{WatchFailed, Listened, ListenFailed, Given, NextFailed, Sent, SendFailed, Closed}
use Rattle.happenings.specs.Happening.{Finished, Kept, Removed, RemoveFailed}

-- what was done to a connection: these bytes of one send were taken, or it was closed
pub data Deed : Type 0 where
  Took : (bytes : List ℕ) → Deed
  Shut : Deed

-- all that was done to a connection, in its order
abbrev pub Account : Type 0
Account = List Deed

-- the account after these deeds, where it is reported
abbrev pub after_deeds : List Deed → Option Account → Option Account
after_deeds deeds None = None
after_deeds deeds (Some account) = Some (account ++ deeds)

-- one more send, of which these bytes were taken
abbrev pub send_to : Option Account → List ℕ → Option Account
send_to account bytes = after_deeds (Took bytes ∷ []) account

-- the replies, one send each, all taken whole
abbrev pub gain : Option Account → List (List ℕ) → Option Account
gain account [] = account
gain account (reply ∷ replies) = gain (send_to account reply) replies

-- the connection was closed
abbrev pub close_to : Option Account → Option Account
close_to account = after_deeds (Shut ∷ []) account

-- the bytes that one deed gave it
abbrev pub bytes_of : Deed → List ℕ
bytes_of (Took bytes) = bytes
bytes_of Shut = []

-- the bytes that the connection took
abbrev pub taken_in : Account → List ℕ
taken_in = flat_map bytes_of

-- what something that happened is to a connection
abbrev pub deed_to : ℕ → Happening → List Deed
deed_to number (Read path bytes) = []
deed_to number (ReadFailed path) = []
deed_to number (Wrote path bytes) = []
deed_to number (Kept path bytes) = []
deed_to number (WriteFailed path) = []
deed_to number (Removed path) = []
deed_to number (RemoveFailed path) = []
deed_to number (Put stream text) = []
deed_to number (PutFailed stream text taken) = []
deed_to number (Watched path every) = []
deed_to number (WatchFailed path every) = []
deed_to number (Listened port connections) = []
deed_to number (ListenFailed port connections) = []
deed_to number (Given event) = []
deed_to number NextFailed = []
deed_to number (Sent k bytes) = if k == number then Took bytes ∷ [] else []
deed_to number (SendFailed k bytes taken) =
    if k == number then Took (take taken bytes) ∷ [] else []
deed_to number (Closed k) = if k == number then Shut ∷ [] else []
deed_to number Finished = []

-- what was done to a connection, of all that happened
abbrev pub account_in : List Happening → ℕ → Account
account_in trace number = flat_map (deed_to number) trace

-- a count after one more; at its last value it stays
abbrev pub up : ℕ → ℕ
up n = min (n + 1) (2 ^ 64 - 1)

-- a count after n more
abbrev pub up_by : ℕ → ℕ → ℕ
up_by zero count = count
up_by (suc n) count = up_by n (up count)
