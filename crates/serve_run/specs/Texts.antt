-- What a run prints.
use Rattle.std.specs.Prelude.{ℕ, Bool, List, [], ◌++◌, length, flat_map, codes, decimal, Option, Some, None, if◌then◌else◌}
use Rattle.wire.specs.Accounts.{Account, taken_in}
use Rattle.serving_spec.specs.declared.Tally.{Tally}

-- a line that counts something
abbrev pub count_line : List ℕ → ℕ → List ℕ
count_line name count = name ++ decimal count ++ codes "\n"

-- the lines that count texts
abbrev pub change_lines : Tally → List ℕ
change_lines tally =
    count_line (codes "changes ") tally.changes ++ count_line (codes "refused ") tally.refused

-- the lines of the counts, with those of the texts where these are to be told
abbrev pub tally_text : (with_changes : Bool) → Tally → List ℕ
tally_text with_changes tally =
    count_line (codes "connections ") tally.connections
    ++ (count_line (codes "replies ") tally.replies
    ++ (count_line (codes "hits ") tally.hits
    ++ (if with_changes then change_lines tally else [])))

-- the bytes that a connection took, where this is reported
abbrev pub bytes_taken : Option Account → List ℕ
bytes_taken None = []
bytes_taken (Some account) = taken_in account

-- the line of a connection: its number, and how many bytes it took
abbrev pub connection_line : ℕ → ℕ → List ℕ
connection_line number length =
    (codes "connection " ++ decimal number ++ codes " ") ++ (decimal length ++ codes "\n")

-- its line, the bytes, and a line feed
abbrev pub connection_text : ℕ → List ℕ → List ℕ
connection_text number bytes = connection_line number (length bytes) ++ bytes ++ codes "\n"

-- the connections that were opened, and then the counts
abbrev pub replay_text : (ℕ → Option Account) → List ℕ → (with_changes : Bool) → Tally → List ℕ
replay_text accounts opened with_changes tally =
    flat_map (λ number. connection_text number (bytes_taken (accounts number))) opened
    ++ tally_text with_changes tally
