-- Taking the steps of a text ends: with all of them, at a fault, or at a statement for which there is no room.
use Rattle.std.proofs.Common.{◌≡◌, ◌+◌, ◌≤◌, Bool, true, false, List, [], ◌∷◌, ◌++◌, length, refl, ap, arith}
use Rattle.std.specs.Prelude.{nat_lt, ⊤, if◌then◌else◌}
use Rattle.std.proofs.lemmas.Bool.Decides.{nat_tests}
use Rattle.sd_graph.specs.Statement.{Statement, Building, building_with, IsWithin, HasTooMany_nodes, HasTooMany_edges}
use Rattle.sd_graph.specs.Stating.{Step, says, fails, Ending, done, fault, too_many_nodes, too_many_edges, no_memory, Ends}

-- each fault among the steps is one of these
abbrev pub FailAs : {P F : Type 0} → (F → Type 0) → List (Step P F) → Type 0
FailAs Q [] = ⊤
FailAs Q (says p s ∷ steps) = FailAs Q steps
FailAs Q (fails f ∷ steps) = Q f × FailAs Q steps

pub fail_append : {P F : Type 0} (Q : F → Type 0) (xs ys : List (Step P F)) → FailAs Q xs → FailAs Q ys → FailAs Q (xs ++ ys)
fail_append Q [] ys h k = k
fail_append Q (says p s ∷ xs) ys h k = fail_append Q xs ys h k
fail_append Q (fails f ∷ xs) ys h k = (h.0, fail_append Q xs ys h.1 k)

pub fail_choice : {P F : Type 0} (Q : F → Type 0) (b : Bool) (xs ys : List (Step P F)) → FailAs Q xs → FailAs Q ys
    → FailAs Q (if b then xs else ys)
fail_choice Q true xs ys h k = h
fail_choice Q false xs ys h k = k

-- any fault
abbrev pub any_fault : {F : Type 0} → F → Type 0
any_fault f = ⊤

pub all_fail : {P F : Type 0} (steps : List (Step P F)) → FailAs any_fault steps
all_fail [] = tt
all_fail (says p s ∷ steps) = all_fail steps
all_fail (fails f ∷ steps) = (tt, all_fail steps)

-- an ending other than out of memory, and of the faults one of these
abbrev pub IsToldAs : {P F : Type 0} → (F → Type 0) → Ending P F → Type 0
IsToldAs Q done = ⊤
IsToldAs Q (fault f) = Q f
IsToldAs Q (too_many_nodes p) = ⊤
IsToldAs Q (too_many_edges p) = ⊤
IsToldAs Q no_memory = ⊥

abbrev pub HasEnding : {P F : Type 0} → (F → Type 0) → Building → List (Step P F) → Type 0
HasEnding {P} {F} Q b steps = (c : Building) × (e : Ending P F) × IsToldAs Q e × Ends b steps c e

-- a statement for which there is room, before the others
one_more : {P F : Type 0} (b c : Building) (p : P) (s : Statement) (steps : List (Step P F)) (e : Ending P F) → IsWithin (building_with s b)
    → Ends (building_with s b) steps c e → Ends b (says p s ∷ steps) c e
one_more b c p s steps done room h = (room, h)
one_more b c p s steps (fault f) room h = (says p s ∷ h.0, h.1, ap (λ xs. says p s ∷ xs) h.2, (room, h.3))
one_more b c p s steps (too_many_nodes q) room h = (says p s ∷ h.0, h.1, h.2, ap (λ xs. says p s ∷ xs) h.3, (room, h.4), h.5)
one_more b c p s steps (too_many_edges q) room h = (says p s ∷ h.0, h.1, h.2, ap (λ xs. says p s ∷ xs) h.3, (room, h.4), h.5, h.6)
one_more b c p s steps no_memory room h = (says p s ∷ h.0, h.1, ap (λ xs. says p s ∷ xs) h.2, (room, h.3))

-- there is room for a statement or not
data Room (b : Building) : Type 0 where
  fits : IsWithin b → Room b
  nodes : HasTooMany_nodes b → Room b
  edges : length b.graph.nodes ≤ b.limits.nodes → HasTooMany_edges b → Room b

room : (b : Building) → Room b
room b = by (nat_lt b.limits.nodes (length b.graph.nodes)) (nat_lt b.limits.edges (length b.graph.edges + length b.graph.members)) refl refl
  where
    by : (m n : Bool) → nat_lt b.limits.nodes (length b.graph.nodes) ≡ m
        → nat_lt b.limits.edges (length b.graph.edges + length b.graph.members) ≡ n → Room b
    by true n is was = nodes (grind (arith, nat_tests))
    by false true is was = edges (grind (arith, nat_tests)) (grind (arith, nat_tests))
    by false false is was = fits (grind (arith, nat_tests), grind (arith, nat_tests))

pub ended : {P F : Type 0} (Q : F → Type 0) (b : Building) (steps : List (Step P F)) → FailAs Q steps → HasEnding Q b steps
ended Q b [] told = (b, done, tt, refl)
ended Q b (fails f ∷ steps) told = (b, fault f, told.0, ([], steps, refl, refl))
ended {P} {F} Q b (says p s ∷ steps) told = by (room (building_with s b)) (ended Q (building_with s b) steps told)
  where
    by : Room (building_with s b) → HasEnding Q (building_with s b) steps → HasEnding Q b (says p s ∷ steps)
    by (fits within) rest = (rest.0, rest.1, rest.2, one_more b rest.0 p s steps rest.1 within rest.3)
    by (nodes many) rest = (b, too_many_nodes p, tt, ([], steps, s, refl, refl, many))
    by (edges few many) rest = (b, too_many_edges p, tt, ([], steps, s, refl, refl, few, many))
