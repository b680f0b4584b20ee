-- What a trial counts, and what it prints.
use Rattle.std.specs.Prelude.{ℕ, Bool, true, false, List, ◌++◌, length, count_by, codes, decimal}
use Rattle.std.specs.List.{sum_by}
use Rattle.page_spec.specs.declared.Outcome.{Outcome}
use Rattle.page_spec.specs.declared.Outcome.TheVariants.{Page, Missing, Cyclic, TooLong}
use Rattle.trial_spec.specs.declared.Counts.{Counts}

-- whether the outcome is a page
abbrev pub is_page : Outcome → Bool
is_page (Page text) = true
is_page Missing = false
is_page (Cyclic value) = false
is_page TooLong = false

-- whether there is no page
abbrev pub is_missing : Outcome → Bool
is_missing (Page text) = false
is_missing Missing = true
is_missing (Cyclic value) = false
is_missing TooLong = false

-- the bytes of a page
abbrev pub page_bytes : Outcome → ℕ
page_bytes (Page text) = length text
page_bytes Missing = 0
page_bytes (Cyclic value) = 0
page_bytes TooLong = 0

-- a line with a name and a number
abbrev pub number_line : List ℕ → ℕ → List ℕ
number_line name number = name ++ decimal number ++ codes "\n"

-- how many of the outcomes are pages, how many are none, and how many bytes the pages have
abbrev pub counts_of : List Outcome → Counts
counts_of outcomes = record {
  ok = count_by is_page outcomes;
  missing = count_by is_missing outcomes;
  bytes = sum_by page_bytes outcomes;
}

-- the six lines
abbrev pub lines_of : (entries requests : ℕ) → Counts → (hits : ℕ) → List ℕ
lines_of entries requests counts hits =
    number_line (codes "entries ") entries
    ++ number_line (codes "requests ") requests
    ++ number_line (codes "ok ") counts.ok
    ++ number_line (codes "missing ") counts.missing
    ++ number_line (codes "bytes ") counts.bytes
    ++ number_line (codes "hits ") hits
