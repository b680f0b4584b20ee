-- What a reader of requests keeps in its buffer.
use Rattle.std.specs.Prelude.{◌≡◌, ℕ, ◌<◌, Bool, false, List, [], length, Option, Some, None}
use Rattle.std.specs.List.{AllPass}
use Rattle.httparse.specs.declared.spans.Span.{Span}
use Rattle.httparse.specs.Spans.{span_bytes, IsWithin}
use Rattle.http_reply.specs.Feeding.{Held}
use Rattle.http_spec.specs.Heads.{max_head, HasNoHead, is_line_end_byte}

-- each byte may be in a line end
abbrev pub AllLineEndBytes : List ℕ → Type 0
AllLineEndBytes bytes = AllPass is_line_end_byte bytes

-- The buffer has the bytes of a head that is not whole yet, or a whole head whose target is there.
abbrev pub held_in : List ℕ → Option Span → Held
held_in bytes None = record { rest = bytes; target = [] }
held_in bytes (Some target) = record { rest = []; target = span_bytes bytes target }

-- the bytes of a head that is not whole yet
pub record IsOpen (bytes : List ℕ) (started : Bool) : Type 0 where
  pub room : length bytes < max_head
  pub none : HasNoHead bytes
  pub unstarted : started ≡ false → AllLineEndBytes bytes

-- what holds of the bytes
abbrev pub IsKept : List ℕ → Bool → Option Span → Type 0
IsKept bytes started None = IsOpen bytes started
IsKept bytes started (Some target) = IsWithin (length bytes) target
