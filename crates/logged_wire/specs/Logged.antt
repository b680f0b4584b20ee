-- The lines that a log has of what happened.
use Rattle.std.specs.Prelude.{◌≡◌, ◌⊎◌, ◌≤◌, ℕ, ◌==◌, ◌||◌, Bool, List, [], ◌∷◌, ◌++◌, Option, Some, None}
use Rattle.std.specs.Prelude.{option_map, unwrap_or, if◌then◌else◌}
use Rattle.std.specs.BTreeMap.{is_at}
use Rattle.std.specs.Map.{lookup}
use Rattle.std.specs.Ordering.{nat_cmp}
use Rattle.std.specs.Option.{IsSomeAnd}
use Rattle.happenings.specs.Happening.{Happening, Given, Sent, SendFailed, Closed}
use Rattle.happenings.specs.declared.event.WireEvent.TheVariants.{Opened, Bytes, Lost}
use Rattle.edge_io.specs.Counts.{Rose}
use Rattle.access_line.specs.Line.{log_line}

-- ---- which lines belong to a list of what happened

-- the byte is a carriage return or a line feed
abbrev pub is_line_end : ℕ → Bool
is_line_end byte = byte == 13 || byte == 10

-- the bytes up to the first line end
abbrev pub line_at : List ℕ → List ℕ
line_at [] = []
line_at (byte ∷ bytes) = if is_line_end byte then [] else byte ∷ line_at bytes

-- the first line of the bytes that is not empty, if they have one
abbrev pub first_line : List ℕ → List ℕ
first_line [] = []
first_line (byte ∷ bytes) = if is_line_end byte then first_line bytes else byte ∷ line_at bytes

-- What came of a connection since it was opened or last replied to, after one thing more happened. Of a connection that
-- is not open this is nothing.
abbrev pub came_after : Happening → (connection : ℕ) → Option (List ℕ) → Option (List ℕ)
came_after (Given (Opened k)) connection came = if k == connection then Some [] else came
came_after (Given (Bytes k piece)) connection came =
    if k == connection then option_map (λ bytes. bytes ++ piece) came else came
came_after (Given (Lost k)) connection came = if k == connection then None else came
came_after (Sent k reply) connection came =
    if k == connection then option_map (λ bytes. []) came else came
came_after (SendFailed k reply taken) connection came = if k == connection then None else came
came_after (Closed k) connection came = if k == connection then None else came
came_after happening connection came = came

-- the line of a reply, whose request is the first line of what came
unfoldable pub reply_line : (came : Option (List ℕ)) → (reply : List ℕ) → List ℕ
reply_line came reply = log_line (unwrap_or (option_map first_line came) []) reply

-- the line of what happened, if it is a reply, taken whole or not
abbrev pub lines_of : Happening → (came : ℕ → Option (List ℕ)) → List (List ℕ)
lines_of (Sent k reply) came = reply_line (came k) reply ∷ []
lines_of (SendFailed k reply taken) came = reply_line (came k) reply ∷ []
lines_of happening came = []

-- the lines of all that happened, where this came of the connections before
abbrev pub logged_after : (came : ℕ → Option (List ℕ)) → List Happening → List (List ℕ)
logged_after came [] = []
logged_after came (h ∷ trace) =
    lines_of h came ++ logged_after (λ connection. came_after h connection (came connection)) trace

-- the lines of all that happened from the start
abbrev pub logged : List Happening → List (List ℕ)
logged trace = logged_after (λ connection. None) trace

-- ---- what a log has at one moment

pub record Kept : Type 0 where
  -- the lines that were put
  pub lines : List (List ℕ)
  -- the connections that are open, each with what came of it since its last reply
  pub came : List (ℕ × List ℕ)
  -- how often a line was not put, or what came of a connection was forgotten
  pub misses : ℕ

-- the log has these lines, and nothing happened yet
abbrev pub starting : List (List ℕ) → Kept
starting lines = record { lines = lines; came = []; misses = 0 }

-- what came of a connection
abbrev pub came_in : Kept → (connection : ℕ) → Option (List ℕ)
came_in kept connection = lookup (is_at (nat_cmp connection)) kept.came

-- What a log has after one thing more happened. Its line is left out, or what came of a connection is forgotten, only
-- where a miss is counted.
pub record Notes (h : Happening) (before after : Kept) : Type 0 where
  pub lines : (after.lines ≡ before.lines ++ lines_of h (came_in before))
      ⊎ ((after.lines ≡ before.lines) × Rose before.misses after.misses)
  pub came : (connection : ℕ)
      → (came_in after connection ≡ came_after h connection (came_in before connection))
      ⊎ ((came_in after connection ≡ None) × Rose before.misses after.misses)
  pub misses : before.misses ≤ after.misses

-- the same, of a log if there is one
abbrev pub Logs : Happening → (before after : Option Kept) → Type 0
Logs h None after = after ≡ None
Logs h (Some before) after = IsSomeAnd after (Notes h before)

-- the same, of all that happened
abbrev pub NotesAll : List Happening → (before after : Kept) → Type 0
NotesAll [] before after = after ≡ before
NotesAll (h ∷ trace) before after =
    (between : Kept) × Notes h before between × NotesAll trace between after
