-- How adding what the parts of a text state ends.
use Rattle.std.specs.Prelude.{◌≡◌, ◌≤◌, ℕ, List, [], ◌∷◌, ◌++◌, length, take, Result, Ok, Err, Option, Some, None, ⊤}
use Rattle.std.specs.List.{flat_map}
use Rattle.sd_graph.specs.Statement.{Building}
use Rattle.sd_graph.specs.Stating.{Step, says, fails, Ending, done, fault, too_many_nodes, too_many_edges, no_memory, Ends}
use Rattle.sd_ddl.specs.declared.part.Part.{Part}
use Rattle.sd_ddl.specs.declared.kinds.StatedKinds.{StatedKinds}
use Rattle.sd_ddl.specs.declared.conflict.Stop.{Stop}
use Rattle.sd_ddl.specs.declared.conflict.Stop.TheVariants.{KindConflict, TooManyNodes, TooManyEdges, NoMemory}
use Rattle.sd_ddl.specs.declared.conflict.Conflict.{Conflict}
use Rattle.sd_ddl.specs.Kinds.{Name}
use Rattle.sd_ddl.specs.Steps.{said, steps, kinds_told}

abbrev pub all_said : (Name → Name → StatedKinds) → List Part → List (Step ℕ ℕ)
all_said kinds = flat_map (said kinds)

abbrev pub NoFails : List (Step ℕ ℕ) → Type 0
NoFails [] = ⊤
NoFails (says p s ∷ steps) = NoFails steps
NoFails (fails f ∷ steps) = ⊥

-- the first conflict: what is before it is stated
abbrev pub IsFirst : List Part → Option Conflict → Type 0
IsFirst parts None =
    (steps parts ≡ all_said (kinds_told parts) parts) × NoFails (all_said (kinds_told parts) parts)
IsFirst parts (Some c) =
    (c.count ≤ length parts) × NoFails (all_said (kinds_told parts) (take c.count parts))
    × ((rest : List (Step ℕ ℕ))
    × (steps parts ≡ all_said (kinds_told parts) (take c.count parts) ++ (fails c.place ∷ rest)))

abbrev pub stop_ending : Result ⊤ Stop → Ending ℕ ℕ
stop_ending (Ok u) = done
stop_ending (Err (KindConflict at)) = fault at
stop_ending (Err (TooManyNodes at)) = too_many_nodes at
stop_ending (Err (TooManyEdges at)) = too_many_edges at
stop_ending (Err NoMemory) = no_memory

-- the steps end as the answer says. After a conflict the graph is as it was
abbrev pub Takes : List Part → Building → Building → Result ⊤ Stop → Type 0
Takes parts b c (Ok u) = Ends b (steps parts) c done
Takes parts b c (Err (KindConflict at)) =
    (c ≡ b) × ((d : Building) × Ends b (steps parts) d (fault at))
Takes parts b c (Err (TooManyNodes at)) = Ends b (steps parts) c (too_many_nodes at)
Takes parts b c (Err (TooManyEdges at)) = Ends b (steps parts) c (too_many_edges at)
Takes parts b c (Err NoMemory) = Ends b (steps parts) c no_memory
