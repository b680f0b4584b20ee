-- What reading a JSON text into a graph answers, and what the graph holds afterwards.
use Rattle.std.specs.Prelude.{◌≡◌, ℕ, List, Result, Err, ⊤}
use Rattle.graph_spec.specs.DataGraph.{Name}
use Rattle.sd_graph.specs.Statement.{Building}
use Rattle.sd_graph.specs.Stating.{Ends}
use Rattle.json_source.specs.declared.refusal.JsonRefusal.{JsonRefusal}
use Rattle.json_source.specs.declared.refusal.JsonRefusal.TheVariants.{NoMemory}
use Rattle.json_source.specs.declared.rules.JsonRules.{JsonRules}
use Rattle.json_source.specs.Text.{text_steps, json_ending}

-- the text's steps by the rules are taken from b, lead to c, and end with this answer
abbrev pub Reads : JsonRules → Name → List ℕ → Building → Building → Result ⊤ JsonRefusal → Type 0
Reads rules stem bytes b c result = Ends b (text_steps rules stem bytes) c (json_ending result)

-- two answers, neither of them out of memory, are one, and so are the graphs that they leave
abbrev pub HasOneAnswer : JsonRules → Name → List ℕ → Building → Type 0
HasOneAnswer rules stem bytes b =
    (c d : Building) (r s : Result ⊤ JsonRefusal)
    → Reads rules stem bytes b c r → Reads rules stem bytes b d s
    → (r ≡ Err NoMemory → ⊥) → (s ≡ Err NoMemory → ⊥) → (c ≡ d) × (r ≡ s)
