-- What a whole head asks for.
use Rattle.std.specs.Prelude.{ℕ, Bool, true, false, ◌||◌, not, List, Option, if◌then◌else◌, ◌==◌, codes}
use Rattle.std.specs.List.{list_any}
use Rattle.std.specs.Str.{bytes_eq}
use Rattle.httparse.specs.Grammar.{RequestHead}
use Rattle.http_spec.specs.declared.RequestKind.{RequestKind}
use Rattle.http_spec.specs.declared.RequestKind.TheVariants.{Get, Head, BadRequest, Misdirected, WrongMethod}
use Rattle.http_spec.specs.declared.ParsedRequest.{ParsedRequest}
use Rattle.http_spec.specs.Words.{Line, header_lines, has_wrong_host, is_misdirected, announces_body, is_close_line}

-- the case of a head, where requests for these hosts alone are answered, if they are given: the first that applies
abbrev pub kind_of : Option (List ℕ) → List ℕ → ℕ → List Line → RequestKind
kind_of hosts method minor lines =
    if has_wrong_host minor lines then BadRequest
    else if is_misdirected hosts lines then Misdirected
    else if not (bytes_eq method (codes "GET") || bytes_eq method (codes "HEAD")) then WrongMethod
    else if list_any announces_body lines then BadRequest
    else if bytes_eq method (codes "HEAD") then Head
    else Get

-- the connection closes after the reply to a request of this kind
abbrev pub is_fault : RequestKind → Bool
is_fault Get = false
is_fault Head = false
is_fault BadRequest = true
is_fault Misdirected = true
is_fault WrongMethod = true

-- what a head with this method, minor version and header lines asks for
abbrev pub ask_with : Option (List ℕ) → List ℕ → ℕ → List Line → ParsedRequest
ask_with hosts method minor lines = record {
  kind = kind_of hosts method minor lines;
  no_body = bytes_eq method (codes "HEAD");
  close = is_fault (kind_of hosts method minor lines)
      || (minor == 0 || list_any is_close_line lines);
}

-- what the head asks for, where requests for these hosts are answered
abbrev pub ask_of : Option (List ℕ) → RequestHead → ParsedRequest
ask_of hosts h = ask_with hosts h.method h.minor (header_lines h)

-- what bytes that are no head ask for
abbrev pub bad_request : ParsedRequest
bad_request = record { kind = BadRequest; no_body = false; close = true }
