-- The heads of requests that a server reads from a connection (RFC 9112, sections 2 to 5).
use Rattle.std.specs.Prelude.{◌≡◌, ℕ, ◌≤◌, Bool, ◌||◌, ◌==◌, List, ◌++◌, length, All}
use Rattle.std.specs.List.{flat_map}
use Rattle.httparse.specs.Ascii.{line_feed, carriage_return}
use Rattle.httparse.specs.Grammar.{LineEnd, print_blank, RequestHead, IsRequestHead, print_request}

-- how many header lines a head may have
abbrev pub max_lines : ℕ
max_lines = 64

-- how many bytes a head may have, the line ends before it included
abbrev pub max_head : ℕ
max_head = 16384

-- A head: line ends, perhaps none, and then a request head of HTTP/1.0 or HTTP/1.1. The line ends
-- are those of the tree's field `blank`.
pub record IsHead (h : RequestHead) : Type 0 where
  pub valid : IsRequestHead h
  pub lines : length h.fields ≤ max_lines
  pub size : length (print_request h) ≤ max_head

-- the bytes are that head and then rest
pub record ReadsHead (bytes : List ℕ) (h : RequestHead) (rest : List ℕ) : Type 0 where
  pub head : IsHead h
  pub whole : bytes ≡ print_request h ++ rest

-- the bytes do not begin with a head
abbrev pub HasNoHead : List ℕ → Type 0
HasNoHead bytes = (h : RequestHead) (rest : List ℕ) → ¬ (ReadsHead bytes h rest)

-- the bytes are line ends and nothing else, or empty
abbrev pub AreLineEnds : List ℕ → Type 0
AreLineEnds bytes = (ends : List LineEnd) × (bytes ≡ print_blank ends)

-- whatever bytes follow, there is neither a head nor a list of line ends
pub record CannotBecomeHead (rest : List ℕ) : Type 0 where
  pub no_head : (more : List ℕ) (h : RequestHead) → IsHead h → ¬ (rest ++ more ≡ print_request h)
  pub no_line_ends : (more : List ℕ) → ¬ (AreLineEnds (rest ++ more))

-- the bytes of the heads, one after another
abbrev pub print_heads : List RequestHead → List ℕ
print_heads heads = flat_map print_request heads

-- The bytes are these heads and then a rest that does not begin with a head: so no longer list of
-- heads is at their front.
pub record Cuts (bytes : List ℕ) (heads : List RequestHead) (rest : List ℕ) : Type 0 where
  pub each : All IsHead heads
  pub whole : bytes ≡ print_heads heads ++ rest
  pub last : HasNoHead rest

-- the byte may be in a line end
abbrev pub is_line_end_byte : ℕ → Bool
is_line_end_byte b = b == carriage_return || b == line_feed
