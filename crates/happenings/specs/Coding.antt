-- Happenings as numbers and bytes, which is how a log is given one.
use Rattle.std.specs.Prelude.{◌≡◌, ◌==◌, ℕ, List, [], ◌∷◌, refl, slice_index, if◌then◌else◌}
use Rattle.std.specs.Coded.{Coded, code_by, coded×, coded_list, coded_ℕ}
use Rattle.happenings.specs.declared.event.WireEvent.TheVariants.{Opened, Bytes, Ended, Lost, Change, Done}
use Rattle.happenings.specs.declared.stream.Stream.TheVariants.{Output, Errors}
use Rattle.happenings.specs.Happening.{Happening, Read, ReadFailed, Wrote, WriteFailed, Put, PutFailed, Watched}
use Rattle.happenings.specs.Happening.{WatchFailed, Listened, ListenFailed, Given, NextFailed, Sent, SendFailed, Closed}
use Rattle.happenings.specs.Happening.{Finished, Kept, Removed, RemoveFailed}

-- the happening of this kind, with its numbers, its path and its bytes
abbrev pub decoded : (kind first second : ℕ) → (path bytes : List ℕ) → Happening
decoded kind first second path bytes =
    if kind == 0 then Read path bytes
    else (if kind == 1 then ReadFailed path
    else (if kind == 2 then Wrote path bytes
    else (if kind == 3 then WriteFailed path
    else (if kind == 4 then Put Output bytes
    else (if kind == 5 then Put Errors bytes
    else (if kind == 6 then PutFailed Output bytes first
    else (if kind == 7 then PutFailed Errors bytes first
    else (if kind == 8 then Watched path first
    else (if kind == 9 then WatchFailed path first
    else (if kind == 10 then Listened first second
    else (if kind == 11 then ListenFailed first second
    else (if kind == 12 then Given (Opened first)
    else (if kind == 13 then Given (Bytes first bytes)
    else (if kind == 14 then Given (Ended first)
    else (if kind == 15 then Given (Lost first)
    else (if kind == 16 then Given (Change bytes)
    else (if kind == 17 then Given Done
    else (if kind == 18 then NextFailed
    else (if kind == 19 then Sent first bytes
    else (if kind == 20 then SendFailed first bytes second
    else (if kind == 21 then Closed first
    else (if kind == 22 then Finished
    else (if kind == 23 then Kept path bytes
    else (if kind == 24 then Removed path
    else RemoveFailed path))))))))))))))))))))))))

-- the happening of these numbers, of which the first says what it is, and these bytes
abbrev pub happening_of : List ℕ → List ℕ → List ℕ → Happening
happening_of numbers path bytes =
    decoded (slice_index numbers 0) (slice_index numbers 1) (slice_index numbers 2) path bytes

abbrev pub Raw : Type 0
Raw = List ℕ × (List ℕ × List ℕ)

abbrev pub raw_of : Happening → Raw
raw_of (Read path bytes) = (0 ∷ [], (path, bytes))
raw_of (ReadFailed path) = (1 ∷ [], (path, []))
raw_of (Wrote path bytes) = (2 ∷ [], (path, bytes))
raw_of (WriteFailed path) = (3 ∷ [], (path, []))
raw_of (Put Output text) = (4 ∷ [], ([], text))
raw_of (Put Errors text) = (5 ∷ [], ([], text))
raw_of (PutFailed Output text taken) = (6 ∷ taken ∷ [], ([], text))
raw_of (PutFailed Errors text taken) = (7 ∷ taken ∷ [], ([], text))
raw_of (Watched path every) = (8 ∷ every ∷ [], (path, []))
raw_of (WatchFailed path every) = (9 ∷ every ∷ [], (path, []))
raw_of (Listened port connections) = (10 ∷ port ∷ connections ∷ [], ([], []))
raw_of (ListenFailed port connections) = (11 ∷ port ∷ connections ∷ [], ([], []))
raw_of (Given (Opened k)) = (12 ∷ k ∷ [], ([], []))
raw_of (Given (Bytes k piece)) = (13 ∷ k ∷ [], ([], piece))
raw_of (Given (Ended k)) = (14 ∷ k ∷ [], ([], []))
raw_of (Given (Lost k)) = (15 ∷ k ∷ [], ([], []))
raw_of (Given (Change text)) = (16 ∷ [], ([], text))
raw_of (Given Done) = (17 ∷ [], ([], []))
raw_of NextFailed = (18 ∷ [], ([], []))
raw_of (Sent k bytes) = (19 ∷ k ∷ [], ([], bytes))
raw_of (SendFailed k bytes taken) = (20 ∷ k ∷ taken ∷ [], ([], bytes))
raw_of (Closed k) = (21 ∷ k ∷ [], ([], []))
raw_of Finished = (22 ∷ [], ([], []))
raw_of (Kept path bytes) = (23 ∷ [], (path, bytes))
raw_of (Removed path) = (24 ∷ [], (path, []))
raw_of (RemoveFailed path) = (25 ∷ [], (path, []))

abbrev pub of_raw : Raw → Happening
of_raw raw = happening_of raw.0 raw.1.0 raw.1.1

pub raw_again : (h : Happening) → of_raw (raw_of h) ≡ h
raw_again (Read path bytes) = refl
raw_again (ReadFailed path) = refl
raw_again (Wrote path bytes) = refl
raw_again (WriteFailed path) = refl
raw_again (Put Output text) = refl
raw_again (Put Errors text) = refl
raw_again (PutFailed Output text taken) = refl
raw_again (PutFailed Errors text taken) = refl
raw_again (Watched path every) = refl
raw_again (WatchFailed path every) = refl
raw_again (Listened port connections) = refl
raw_again (ListenFailed port connections) = refl
raw_again (Given (Opened k)) = refl
raw_again (Given (Bytes k piece)) = refl
raw_again (Given (Ended k)) = refl
raw_again (Given (Lost k)) = refl
raw_again (Given (Change text)) = refl
raw_again (Given Done) = refl
raw_again NextFailed = refl
raw_again (Sent k bytes) = refl
raw_again (SendFailed k bytes taken) = refl
raw_again (Closed k) = refl
raw_again Finished = refl
raw_again (Kept path bytes) = refl
raw_again (Removed path) = refl
raw_again (RemoveFailed path) = refl

-- no two happenings have the same numbers and bytes
abbrev pub coded_happening : Coded Happening
coded_happening =
    code_by Raw (coded× (coded_list coded_ℕ) (coded× (coded_list coded_ℕ) (coded_list coded_ℕ)))
    raw_of of_raw raw_again
