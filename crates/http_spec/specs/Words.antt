-- Tests of the version and the header lines of a head (RFC 9110, section 5.1: names are compared
-- without case).
use Rattle.std.specs.Prelude.{ℕ, Bool, true, false, ◌&&◌, ◌||◌, not, Option, Some, None, List, [], ◌∷◌, length, take, drop, map, ◌==◌, nat_lt, codes, count_by}
use Rattle.std.specs.Char.{to_ascii_lowercase, is_ascii_digit}
use Rattle.std.specs.List.{list_all, list_any, slice_split}
use Rattle.std.specs.Str.{bytes_eq}
use Rattle.httparse.specs.Ascii.{comma, colon}
use Rattle.httparse.specs.Grammar.{RequestHead, trim_ows}
use Rattle.httparse.specs.Spans.{name_and_value}

-- a header line: its name, and its value without the spaces and tabs at both ends
abbrev pub Line : Type 0
Line = List ℕ × List ℕ

-- the header lines of a head, in order
abbrev pub header_lines : RequestHead → List Line
header_lines h = map name_and_value h.fields

-- the two texts are the same but for the case of letters
abbrev pub same_word : List ℕ → List ℕ → Bool
same_word a b = bytes_eq (map to_ascii_lowercase a) (map to_ascii_lowercase b)

-- the line has this name
abbrev pub is_named : List ℕ → Line → Bool
is_named name line = same_word line.0 name

-- how many Host lines there are
abbrev pub host_count : List Line → ℕ
host_count lines = count_by (is_named (codes "host")) lines

-- Host occurs more than once, or not at all in HTTP/1.1
abbrev pub has_wrong_host : ℕ → List Line → Bool
has_wrong_host minor lines = nat_lt 1 (host_count lines) || (minor == 1 && host_count lines == 0)

-- what may follow a host's name in the value of Host: nothing, or a colon and the digits of a port, perhaps none
abbrev pub is_port_end : List ℕ → Bool
is_port_end [] = true
is_port_end (b ∷ digits) = b == colon && list_all is_ascii_digit digits

-- the value of a Host line is this host, without case, whatever its port
abbrev pub is_host : List ℕ → List ℕ → Bool
is_host value name =
    same_word (take (length name) value) name && is_port_end (drop (length name) value)

-- the value of a Host line is one of the hosts between the commas
unfoldable pub is_among_hosts : List ℕ → List ℕ → Bool
is_among_hosts hosts value = list_any (is_host value) (slice_split (λ b. b == comma) hosts)

-- the line is a Host line for none of these hosts
abbrev pub is_for_another : List ℕ → Line → Bool
is_for_another hosts line = is_named (codes "host") line && not (is_among_hosts hosts line.1)

-- Where requests for some hosts alone are answered: a Host line is for another one.
abbrev pub is_misdirected : Option (List ℕ) → List Line → Bool
is_misdirected None lines = false
is_misdirected (Some hosts) lines = list_any (is_for_another hosts) lines

-- the line announces a body
abbrev pub announces_body : Line → Bool
announces_body line =
    is_named (codes "transfer-encoding") line
    || (is_named (codes "content-length") line && not (bytes_eq line.1 (codes "0")))

-- one of the words between the commas is `close`
unfoldable pub has_close_word : List ℕ → Bool
has_close_word value =
    list_any (λ word. same_word (trim_ows word) (codes "close"))
    (slice_split (λ b. b == comma) value)

-- the line asks that the connection be closed
abbrev pub is_close_line : Line → Bool
is_close_line line = is_named (codes "connection") line && has_close_word line.1
