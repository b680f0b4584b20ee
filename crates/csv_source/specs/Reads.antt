-- What reading a CSV text into a graph answers, and what the graph holds afterwards.
use Rattle.std.specs.Prelude.{◌≡◌, ℕ, List, Result, Err, ⊤}
use Rattle.graph_spec.specs.DataGraph.{Name}
use Rattle.sd_graph.specs.Statement.{Building}
use Rattle.sd_graph.specs.Stating.{Ends}
use Rattle.csv_source.specs.declared.refusal.CsvRefusal.{CsvRefusal}
use Rattle.csv_source.specs.declared.refusal.CsvRefusal.TheVariants.{NoMemory}
use Rattle.csv_source.specs.declared.rules.CsvRules.{CsvRules}
use Rattle.csv_source.specs.Text.{text_steps, csv_ending}

-- the text's steps by the rules are taken from b, lead to c, and end with this answer
abbrev pub Reads : CsvRules → Name → List ℕ → Building → Building → Result ⊤ CsvRefusal → Type 0
Reads rules stem bytes b c result = Ends b (text_steps rules stem bytes) c (csv_ending result)

-- two answers, neither of them out of memory, are one, and so are the graphs that they leave
abbrev pub HasOneAnswer : CsvRules → Name → List ℕ → Building → Type 0
HasOneAnswer rules stem bytes b =
    (c d : Building) (r s : Result ⊤ CsvRefusal)
    → Reads rules stem bytes b c r → Reads rules stem bytes b d s
    → (r ≡ Err NoMemory → ⊥) → (s ≡ Err NoMemory → ⊥) → (c ≡ d) × (r ≡ s)
