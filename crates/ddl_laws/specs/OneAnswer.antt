-- What it means that a data text has one answer.
use Rattle.std.specs.Prelude.{◌≡◌, ℕ, List, Result, Err, ⊤}
use Rattle.sd_graph.specs.Statement.{Building}
use Rattle.sd_ddl.specs.Reads.{Reads}
use Rattle.sd_ddl.specs.declared.refusal.DdlRefusal.{DdlRefusal}
use Rattle.sd_ddl.specs.declared.refusal.DdlRefusal.TheVariants.{Text}
use Rattle.token_reader.specs.declared.refusal.TextRefusal.TheVariants.{NoMemory}

-- any answer but out of memory
abbrev pub IsSettled : Result ⊤ DdlRefusal → Type 0
IsSettled (Err (Text NoMemory)) = ⊥
IsSettled answer = ⊤

-- two such answers to the same bytes and the same graph are equal, and leave the same graph
abbrev pub HasOneAnswer : ℕ → List ℕ → Building → Type 0
HasOneAnswer limit bytes b =
    (c d : Building) (r s : Result ⊤ DdlRefusal) → Reads limit bytes b c r
    → Reads limit bytes b d s → IsSettled r → IsSettled s → (c ≡ d) × (r ≡ s)
