-- How a text is written: for HTML, as it stands, line by line, as an address, for JSON.
use Rattle.std.specs.Prelude.{ℕ, ◌+◌, ◌/◌, ◌%◌, nat_lt, ◌==◌, ◌&&◌, ◌||◌, Bool, false}
use Rattle.std.specs.Prelude.{if◌then◌else◌, List, [], ◌∷◌, ◌++◌, codes, flat_map}
use Rattle.std.specs.List.{list_any}
use Rattle.std.specs.Char.{is_ascii_alphanumeric, is_ascii_hexdigit}
use Rattle.tmpl.specs.declared.Writing.{Writing}
use Rattle.tmpl.specs.declared.Writing.TheVariants.{Escaped, Raw, Lines, Url, Json}
use Rattle.page_spec.specs.Show.{hex_digit, byte_in_html, escaped}

-- each byte of a text written by f, which sees the bytes behind it too
abbrev pub each : (ℕ → List ℕ → List ℕ) → List ℕ → List ℕ
each f [] = []
each f (b ∷ behind) = f b behind ++ each f behind

-- an LF is next
abbrev pub is_before_lf : List ℕ → Bool
is_before_lf [] = false
is_before_lf (b ∷ behind) = b == 10

-- each LF is a break, and each CR that no LF follows; a CR before an LF is left out
abbrev pub byte_in_lines : ℕ → List ℕ → List ℕ
byte_in_lines b behind =
    if b == 10 then codes "<br>\n"
    else if b == 13 then (if is_before_lf behind then [] else codes "<br>\n")
    else byte_in_html b

-- a text within HTML with a break at each CR LF, LF and CR
abbrev pub in_lines : List ℕ → List ℕ
in_lines = each byte_in_lines

-- A-Z, a-z, 0-9 and the marks of addresses
abbrev pub is_in_url : ℕ → Bool
is_in_url b =
    is_ascii_alphanumeric b || list_any (λ c. c == b) (codes "-._~/:?#[]@!$&'()*+,;=")

-- two hexadecimal digits are next
abbrev pub is_before_digits : List ℕ → Bool
is_before_digits [] = false
is_before_digits (a ∷ []) = false
is_before_digits (a ∷ b ∷ behind) = is_ascii_hexdigit a && is_ascii_hexdigit b

-- what an address may have stands for itself, also a `%` before two hexadecimal digits; any other
-- byte is `%XX`
abbrev pub byte_in_url : ℕ → List ℕ → List ℕ
byte_in_url b behind =
    if is_in_url b || (b == 37 && is_before_digits behind) then b ∷ []
    else 37 ∷ hex_digit (b / 16) ∷ hex_digit (b % 16) ∷ []

-- a text as an address
abbrev pub in_url : List ℕ → List ℕ
in_url = each byte_in_url

-- a digit in lower-case hexadecimal
abbrev pub small_hex_digit : ℕ → ℕ
small_hex_digit d = if nat_lt d 10 then 48 + d else 87 + d

-- a byte below 32 that has no short name in JSON is `\u00xx`
abbrev pub control_in_json : ℕ → List ℕ
control_in_json b =
    if nat_lt b 32 then codes "\\u00" ++ (small_hex_digit (b / 16) ∷ small_hex_digit (b % 16) ∷ [])
    else b ∷ []

-- `"`, `\` and the bytes below 32 are escaped, and `<`, which then ends no script in HTML
abbrev pub byte_in_json : ℕ → List ℕ
byte_in_json b =
    if b == 34 then codes "\\\""
    else if b == 92 then codes "\\\\"
    else if b == 60 then codes "\\u003c"
    else if b == 8 then codes "\\b"
    else if b == 9 then codes "\\t"
    else if b == 10 then codes "\\n"
    else if b == 12 then codes "\\f"
    else if b == 13 then codes "\\r"
    else control_in_json b

-- a text within a string of JSON
abbrev pub in_json : List ℕ → List ℕ
in_json = flat_map byte_in_json

-- a text written so
abbrev pub written : Writing → List ℕ → List ℕ
written Escaped text = escaped text
written Raw text = text
written Lines text = in_lines text
written Url text = escaped (in_url text)
written Json text = in_json text
