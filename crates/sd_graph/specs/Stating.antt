-- Taking the statements of a text in order, up to its first fault or to the first one for which there is no room.
use Rattle.std.specs.Prelude.{◌≡◌, ◌≤◌, List, [], ◌∷◌, ◌++◌, length}
use Rattle.sd_graph.specs.Statement.{Statement, Building, building_with, IsWithin, HasTooMany_nodes, HasTooMany_edges}

-- a step of a text at a place: a statement, or a fault
pub data Step (P F : Type 0) : Type 0 where
  says : P → Statement → Step P F
  fails : F → Step P F

-- how taking the steps ends
pub data Ending (P F : Type 0) : Type 0 where
  done : Ending P F
  fault : F → Ending P F
  too_many_nodes : P → Ending P F
  too_many_edges : P → Ending P F
  no_memory : Ending P F

-- every step is a statement for which there is room, and all of them together lead from b to c
abbrev pub Leads : {P F : Type 0} → Building → List (Step P F) → Building → Type 0
Leads b [] c = b ≡ c
Leads b (says p s ∷ steps) c = IsWithin (building_with s b) × Leads (building_with s b) steps c
Leads b (fails f ∷ steps) c = ⊥

-- the steps before the one at which they end lead from b to c
abbrev pub Ends : {P F : Type 0} → Building → List (Step P F) → Building → Ending P F → Type 0
Ends b steps c done = Leads b steps c
Ends {P} {F} b steps c (fault f) =
    (front rest : List (Step P F)) × (steps ≡ front ++ (fails f ∷ rest)) × Leads b front c
Ends {P} {F} b steps c (too_many_nodes p) =
    (front rest : List (Step P F)) × (s : Statement) × (steps ≡ front ++ (says p s ∷ rest))
    × Leads b front c
    × HasTooMany_nodes (building_with s c)
Ends {P} {F} b steps c (too_many_edges p) =
    (front rest : List (Step P F)) × (s : Statement) × (steps ≡ front ++ (says p s ∷ rest))
    × Leads b front c
    × (length (building_with s c).graph.nodes ≤ c.limits.nodes)
    × HasTooMany_edges (building_with s c)
Ends {P} {F} b steps c no_memory =
    (front rest : List (Step P F)) × (steps ≡ front ++ rest) × Leads b front c
