-- The connections that are open, by their numbers, and what is done to each.
use Rattle.std.specs.Prelude.{◌≡◌, ◌<◌, ◌+◌, ◌-◌, ℕ, Bool, true, false, List, [], Option, Some, None}
use Rattle.std.specs.BTreeMap.{is_at, insert_entry}
use Rattle.std.specs.Map.{lookup, remove_entry}
use Rattle.std.specs.Ordering.{nat_cmp}
use Rattle.wire.specs.Accounts.{up}
use Rattle.tcp_wire.specs.Waits.{most_pieces}
use Rattle.tcp_wire.specs.declared.book.Line.{Line}
use Rattle.tcp_wire.specs.declared.book.Progress.{Progress}

-- the connections that were opened and are not let go yet
pub record BookState : Type 0 where
  -- each with its number, in the order of these
  pub lines : List (ℕ × Line)
  -- the number of the last one that was opened
  pub opened : ℕ
  -- how many more are opened
  pub left : ℕ
  -- how many that were opened were let go
  pub ended : ℕ

-- none is open, and none will be
abbrev pub new_book : BookState
new_book = record { lines = []; opened = 0; left = 0; ended = 0 }

-- the open connection of a number
abbrev pub line_of : BookState → ℕ → Option Line
line_of book number = lookup (is_at (nat_cmp number)) book.lines

-- the book with this line of a connection, in place of the one that it had
abbrev pub with_line : (number : ℕ) → Line → BookState → BookState
with_line number line book =
    record book { lines = insert_entry nat_cmp book.lines number line }

-- nothing has come of a connection, and it was sent nothing
abbrev pub fresh_progress : Progress
fresh_progress = record { ended = false; pieces = 0; replied = false; refused = false }

-- the book in which the connection of this token was opened next
abbrev pub with_opened : (token : ℕ) → BookState → BookState
with_opened token book = record
    (with_line (up book.opened) (record { token = token; progress = fresh_progress }) book) {
      opened = up book.opened;
      left = book.left - 1;
    }

-- the line after one more piece
abbrev pub with_piece : Line → Line
with_piece line = record line {
  progress = record line.progress { pieces = line.progress.pieces + 1 };
}

-- the line after the end of its input
abbrev pub with_end : Line → Line
with_end line = record line { progress = record line.progress { ended = true } }

-- the line after a reply, which refuses a request or not
abbrev pub with_reply : (refused : Bool) → Line → Line
with_reply refused line = record line {
  progress = record line.progress { pieces = 0; replied = true; refused = refused };
}

-- A piece came of a connection that is open, whose input goes on, and of which fewer came since its last reply than may.
pub record TakesPiece (number : ℕ) (book after : BookState) : Type 0 where
  pub line : Line
  pub is_open : line_of book number ≡ Some line
  pub goes_on : line.progress.ended ≡ false
  pub few : line.progress.pieces < most_pieces
  pub is : after ≡ with_line number (with_piece line) book

-- the input of a connection that is open ended
pub record TakesEnd (number : ℕ) (book after : BookState) : Type 0 where
  pub line : Line
  pub is_open : line_of book number ≡ Some line
  pub goes_on : line.progress.ended ≡ false
  pub is : after ≡ with_line number (with_end line) book

-- a connection that is open was sent a reply, which refuses a request or not
pub record Replies (number : ℕ) (refused : Bool) (book after : BookState) : Type 0 where
  pub line : Line
  pub is_open : line_of book number ≡ Some line
  pub is : after ≡ with_line number (with_reply refused line) book

-- the book after the connection of this number was let go, whose line was this one, if it was open
abbrev pub without : (number : ℕ) → Option Line → BookState → BookState
without number None book = book
without number (Some line) book = record book {
  lines = remove_entry (is_at (nat_cmp number)) book.lines;
  ended = up book.ended;
}

-- the book after the connection of this number was let go, if it was open
abbrev pub let_go : (number : ℕ) → BookState → BookState
let_go number book = without number (line_of book number) book
