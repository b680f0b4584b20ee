-- What the parser reports of bytes.
use Rattle.std.specs.Prelude.{◌≡◌, ℕ, List, length, Option}
use Rattle.httparse.specs.Grammar.{RequestHead, print_request}
use Rattle.httparse.specs.Spans.{span_bytes, IsWithin}
use Rattle.http_reply.specs.declared.parsing.Parsed.{Parsed}
use Rattle.http_reply.specs.declared.parsing.Parsed.TheVariants.{Head, Unfinished, Impossible}
use Rattle.http_spec.specs.Asks.{ask_of}
use Rattle.http_spec.specs.Heads.{IsHead, HasNoHead, CannotBecomeHead}

-- what bytes are, none of whose proper fronts is a head, where requests for these hosts are answered
abbrev pub Parses : Option (List ℕ) → List ℕ → Parsed → Type 0
Parses hosts bytes (Head ask target) =
    (h : RequestHead) × IsHead h × (bytes ≡ print_request h) × (ask ≡ ask_of hosts h)
    × (span_bytes bytes target ≡ h.target) × IsWithin (length bytes) target
Parses hosts bytes Unfinished = HasNoHead bytes
Parses hosts bytes Impossible = HasNoHead bytes × CannotBecomeHead bytes
