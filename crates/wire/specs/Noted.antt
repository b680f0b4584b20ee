-- What was done to connections, told twice: in the list of what happened, and in the accounts.
use Rattle.std.specs.Prelude.{◌≡◌, ℕ, List, ◌++◌, All, Option, ⊤}
use Rattle.happenings.specs.Happening.{Happening, Read, ReadFailed, Wrote, WriteFailed, Put, PutFailed, Watched}
use Rattle.happenings.specs.Happening.{WatchFailed, Listened, ListenFailed, Given, NextFailed, Sent, SendFailed, Closed}
use Rattle.happenings.specs.Happening.{Finished, Kept, Removed, RemoveFailed}
use Rattle.wire.specs.Accounts.{Account, after_deeds, account_in}

-- it is a send or a close
abbrev pub IsDeed : Happening → Type 0
IsDeed (Read path bytes) = ⊥
IsDeed (ReadFailed path) = ⊥
IsDeed (Wrote path bytes) = ⊥
IsDeed (Kept path bytes) = ⊥
IsDeed (WriteFailed path) = ⊥
IsDeed (Removed path) = ⊥
IsDeed (RemoveFailed path) = ⊥
IsDeed (Put stream text) = ⊥
IsDeed (PutFailed stream text taken) = ⊥
IsDeed (Watched path every) = ⊥
IsDeed (WatchFailed path every) = ⊥
IsDeed (Listened port connections) = ⊥
IsDeed (ListenFailed port connections) = ⊥
IsDeed (Given event) = ⊥
IsDeed NextFailed = ⊥
IsDeed (Sent k bytes) = ⊤
IsDeed (SendFailed k bytes taken) = ⊤
IsDeed (Closed k) = ⊤
IsDeed Finished = ⊥

-- These sends and closes are what the accounts tell: that of each connection grew by those of them that are its own.
pub record AreAccountedFor (part : List Happening) (old new : ℕ → Option Account) : Type 0 where
  pub deeds : All IsDeed part
  pub each : (number : ℕ) → new number ≡ after_deeds (account_in part number) (old number)

-- the list of what happened grew by sends and closes alone, and the accounts tell the same
pub record Noted (before after : List Happening) (old new : ℕ → Option Account) : Type 0 where
  pub part : List Happening
  pub added : after ≡ before ++ part
  pub told : AreAccountedFor part old new
