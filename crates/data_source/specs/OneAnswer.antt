-- What it means that a data file has one answer.
use Rattle.std.specs.Prelude.{◌≡◌, ℕ, List, Result, Err, ⊤}
use Rattle.sd_graph.specs.Statement.{Building}
use Rattle.data_source.specs.Takes.{Takes}
use Rattle.data_source.specs.declared.rules.SourceRules.{SourceRules}
use Rattle.data_source.specs.declared.refusal.SourceRefusal.{SourceRefusal}
use Rattle.data_source.specs.declared.refusal.SourceRefusal.TheVariants.{NoMemory}

-- two answers to the same file and the same graph, neither of them out of memory, are equal, and leave the same graph
abbrev pub HasOneAnswer : SourceRules → List ℕ → ℕ → List ℕ → Building → Type 0
HasOneAnswer rules path limit bytes b =
    (c d : Building) (r s : Result ⊤ SourceRefusal) → Takes rules path limit bytes b c r
    → Takes rules path limit bytes b d s
    → (r ≡ Err NoMemory → ⊥) → (s ≡ Err NoMemory → ⊥) → (c ≡ d) × (r ≡ s)
