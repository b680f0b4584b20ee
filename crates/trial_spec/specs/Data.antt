-- The data of a trial: entries whose years and authors a linear congruential generator draws.
use Rattle.std.specs.Prelude.{ℕ, zero, suc, ◌+◌, ◌*◌, ◌/◌, ◌%◌, pos}
use Rattle.std.specs.Prelude.{List, [], ◌∷◌, ◌++◌, codes, decimal}
use Rattle.std.specs.List.{flat_map}
use Rattle.sd_value.specs.declared.Datum.TheVariants.{Int}
use Rattle.sd_value.specs.declared.Value.{Value}
use Rattle.sd_value.specs.declared.Value.TheVariants.{Data}
use Rattle.graph_spec.specs.DataGraph.{DataGraph, Name, text}
use Rattle.graph_spec.specs.Statement.{Statement, a_member, an_edge, graph_of}
use Rattle.trial_spec.specs.declared.Entry.{Entry}

-- the numbers below one, ascending
abbrev pub below : ℕ → List ℕ
below zero = []
below (suc n) = below n ++ n ∷ []

-- the generator's state after its next draw
abbrev pub next : ℕ → ℕ
next state = (1103515245 * state + 12345) % 2147483648

-- what is drawn at a state
abbrev pub drawn : ℕ → ℕ
drawn state = state / 65536

-- the entry of this number, for which the generator draws three times after this state
abbrev pub entry_after : ℕ → ℕ → Entry
entry_after state number = record {
  number = number;
  year = 1980 + drawn (next state) % 30;
  first = drawn (next (next state)) % 50;
  second = drawn (next (next (next state))) % 50;
}

-- The state at which n entries are made. The first is the number of all entries of the trial.
abbrev pub state_at : ℕ → ℕ → ℕ
state_at entries zero = entries
state_at entries (suc made) = next (next (next (state_at entries made)))

-- the entry behind n others; they are numbered from 1
abbrev pub entry : ℕ → ℕ → Entry
entry entries made = entry_after (state_at entries made) (made + 1)

-- a word with a number behind it
abbrev pub numbered : List ℕ → ℕ → List ℕ
numbered word number = word ++ decimal number

-- the node of the entry of this number
abbrev pub node_name : ℕ → Name
node_name number = numbered (codes "pub_") number

-- the value of a number
abbrev pub number_value : ℕ → Value
number_value n = Data (Int (pos n))

-- what an entry states
abbrev pub statements : Entry → List Statement
statements e =
    a_member (codes "Publications") (node_name e.number)
    ∷ an_edge (node_name e.number) (codes "title") (text (numbered (codes "Title ") e.number))
    ∷ an_edge (node_name e.number) (codes "year") (number_value e.year)
    ∷ an_edge (node_name e.number) (codes "author") (text (numbered (codes "Author ") e.first))
    ∷ an_edge (node_name e.number) (codes "author") (text (numbered (codes "Author ") e.second))
    ∷ []

-- the data of a trial: what its entries state, and nothing else
abbrev pub made_graph : ℕ → DataGraph
made_graph entries =
    graph_of (flat_map (λ made. statements (entry entries made)) (below entries))
