-- What reading a text file into a graph answers, and what the graph holds afterwards.
use Rattle.std.specs.Prelude.{◌≡◌, ℕ, List, Option, Result, Err, ⊤}
use Rattle.graph_spec.specs.DataGraph.{Name}
use Rattle.sd_graph.specs.Statement.{Building}
use Rattle.sd_graph.specs.Stating.{Ends}
use Rattle.text_source.specs.declared.refusal.TextFileRefusal.{TextFileRefusal}
use Rattle.text_source.specs.declared.refusal.TextFileRefusal.TheVariants.{NoMemory}
use Rattle.text_source.specs.Text.{file_steps, text_ending}

-- the file's steps are taken from b, lead to c, and end with this answer
abbrev pub Reads : Name → Option Name → List ℕ → Building → Building
    → Result ⊤ TextFileRefusal → Type 0
Reads stem folder bytes b c result = Ends b (file_steps stem folder bytes) c (text_ending result)

-- two answers, neither of them out of memory, are one, and so are the graphs that they leave
abbrev pub HasOneAnswer : Name → Option Name → List ℕ → Building → Type 0
HasOneAnswer stem folder bytes b =
    (c d : Building) (r s : Result ⊤ TextFileRefusal)
    → Reads stem folder bytes b c r → Reads stem folder bytes b d s
    → (r ≡ Err NoMemory → ⊥) → (s ≡ Err NoMemory → ⊥) → (c ≡ d) × (r ≡ s)
