-- What is asked for in a trial.
use Rattle.std.specs.Prelude.{ℕ, ◌+◌, pos, List, [], ◌∷◌, ◌++◌, map, codes}
use Rattle.sd_value.specs.declared.Datum.TheVariants.{Int, Node}
use Rattle.sd_value.specs.declared.Term.{Term}
use Rattle.page_spec.specs.Show.{address}
use Rattle.trial_spec.specs.Data.{below, node_name}

-- the page of the entry of this number
abbrev pub paper_page : ℕ → Term
paper_page number = record { function = codes "PaperPage"; args = Node (node_name number) ∷ [] }

-- the page of a year
abbrev pub year_page : ℕ → Term
year_page year = record { function = codes "YearPage"; args = Int (pos year) ∷ [] }

-- the addresses of the pages of n entries
abbrev pub papers : ℕ → List (List ℕ)
papers entries = map (λ made. address (paper_page (made + 1))) (below entries)

-- those of the pages of n years from 1980 on
abbrev pub years : ℕ → List (List ℕ)
years count = map (λ past. address (year_page (1980 + past))) (below count)

-- the address of each entry's page, of each year's from 1980 to 2009, and of the root page
abbrev pub each_address : ℕ → List (List ℕ)
each_address entries = (papers entries ++ years 30) ++ codes "/" ∷ []

-- each is asked for twice
abbrev pub targets : ℕ → List (List ℕ)
targets entries = each_address entries ++ each_address entries

-- the bytes of a request
abbrev pub request : List ℕ → List ℕ
request target = (codes "GET " ++ target) ++ codes " HTTP/1.1\r\nHost: a\r\n\r\n"
