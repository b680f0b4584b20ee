-- The line that a log of replies has of each: the common log format, without a host and a time.
use Rattle.std.specs.Prelude.{ℕ, ◌/◌, ◌%◌, ◌==◌, ◌&&◌, nat_le, not, Bool, List, [], ◌∷◌, ◌++◌, take, drop, length, codes, decimal, flat_map, nat_eq}
use Rattle.std.specs.Prelude.{if◌then◌else◌}
use Rattle.std.specs.List.{starts_with}
use Rattle.page_spec.specs.Show.{hex_digit}

-- the byte stands as it is: it is printable, and not a quote or a backslash
abbrev pub is_plain : ℕ → Bool
is_plain b = nat_le 32 b && (nat_le b 126 && (not (b == 34) && not (b == 92)))

-- the byte as it stands between quotes: `\xHH`, unless it is plain
abbrev pub shown_byte : ℕ → List ℕ
shown_byte b =
    if is_plain b then b ∷ [] else codes "\\x" ++ (hex_digit (b / 16) ∷ hex_digit (b % 16) ∷ [])

-- the request's first line; a dash, if the bytes that were answered are not a request
abbrev pub shown_request : List ℕ → List ℕ
shown_request [] = codes "-"
shown_request (b ∷ request) = flat_map shown_byte (b ∷ request)

-- the body of a reply: what comes after its first empty line
abbrev pub body_of : List ℕ → List ℕ
body_of [] = []
body_of (b ∷ reply) =
    if starts_with nat_eq (b ∷ reply) (codes "\r\n\r\n") then drop 4 (b ∷ reply) else body_of reply

-- the three digits of a reply's status, after `HTTP/1.1 `
abbrev pub status_of : List ℕ → List ℕ
status_of reply = take 3 (drop 9 reply)

-- the line of a reply to a request
abbrev pub log_line : (request reply : List ℕ) → List ℕ
log_line request reply =
    codes "- - - [-] \"" ++ (shown_request request ++ (codes "\" " ++ (status_of reply
    ++ (codes " " ++ (decimal (length (body_of reply)) ++ codes "\n")))))
