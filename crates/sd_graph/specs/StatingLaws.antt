-- How taking steps goes together, part by part.
use Rattle.std.specs.Prelude.{List, [], ◌∷◌, ◌++◌, Result, Ok, Err, ⊤}
use Rattle.std.proofs.Common.{refl, sym, ◌∙◌, ap, subst, append_assoc}
use Rattle.sd_graph.specs.Statement.{Statement, Building, building_with, HasTooMany_nodes, HasTooMany_edges, Adds}
use Rattle.sd_graph.specs.Stating.{Step, says, fails, Ending, done, fault, too_many_nodes, too_many_edges, no_memory, Leads, Ends}
use Rattle.sd_graph.specs.declared.GraphRefusal.{GraphRefusal}
use Rattle.sd_graph.specs.declared.GraphRefusal.TheVariants.{TooManyNodes, TooManyEdges, NoMemory}

pub Leads-append : {P F : Type 0} (b c d : Building) (front steps : List (Step P F))
    → Leads b front c → Leads c steps d → Leads b (front ++ steps) d
Leads-append b c d [] steps h k = subst (λ x. Leads x steps d) (sym h) k
Leads-append b c d (says p s ∷ front) steps h k =
    (h.0, Leads-append (building_with s b) c d front steps h.1 k)
Leads-append b c d (fails f ∷ front) steps h k = absurd h

-- steps before
pub Ends-after : {P F : Type 0} (b c d : Building) (front steps : List (Step P F)) (e : Ending P F)
    → Leads b front c → Ends c steps d e → Ends b (front ++ steps) d e
Ends-after b c d front steps done h k = Leads-append b c d front steps h k
Ends-after b c d front steps (fault f) h k = (
  front ++ k.0,
  k.1,
  ap (λ xs. front ++ xs) k.2 ∙ sym (append_assoc front k.0 (fails f ∷ k.1)),
  Leads-append b c d front k.0 h k.3,
)
Ends-after b c d front steps (too_many_nodes p) h k = (
  front ++ k.0,
  k.1,
  k.2,
  ap (λ xs. front ++ xs) k.3
      ∙ sym (append_assoc front k.0 (says p k.2 ∷ k.1)),
  Leads-append b c d front k.0 h k.4,
  k.5,
)
Ends-after b c d front steps (too_many_edges p) h k = (
  front ++ k.0,
  k.1,
  k.2,
  ap (λ xs. front ++ xs) k.3
      ∙ sym (append_assoc front k.0 (says p k.2 ∷ k.1)),
  Leads-append b c d front k.0 h k.4,
  k.5,
  k.6,
)
Ends-after b c d front steps no_memory h k = (
  front ++ k.0,
  k.1,
  ap (λ xs. front ++ xs) k.2 ∙ sym (append_assoc front k.0 k.1),
  Leads-append
      b c d front k.0 h k.3,
)

-- whether the steps ended before their end
abbrev pub IsCut : {P F : Type 0} → Ending P F → Type 0
IsCut done = ⊥
IsCut (fault f) = ⊤
IsCut (too_many_nodes p) = ⊤
IsCut (too_many_edges p) = ⊤
IsCut no_memory = ⊤

-- steps that are not reached
pub Ends-before : {P F : Type 0} (b c : Building) (steps more : List (Step P F)) (e : Ending P F)
    → IsCut e → Ends b steps c e → Ends b (steps ++ more) c e
Ends-before b c steps more done cut k = absurd cut
Ends-before b c steps more (fault f) cut k =
    (k.0, k.1 ++ more, ap (λ xs. xs ++ more) k.2 ∙ append_assoc k.0 (fails f ∷ k.1) more, k.3)
Ends-before b c steps more (too_many_nodes p) cut k = (
  k.0,
  k.1 ++ more,
  k.2,
  ap (λ xs. xs ++ more) k.3 ∙ append_assoc k.0 (says p k.2 ∷ k.1) more,
  k.4,
  k.5,
)
Ends-before b c steps more (too_many_edges p) cut k = (
  k.0,
  k.1 ++ more,
  k.2,
  ap (λ xs. xs ++ more) k.3 ∙ append_assoc k.0 (says p k.2 ∷ k.1) more,
  k.4,
  k.5,
  k.6,
)
Ends-before b c steps more no_memory cut k =
    (k.0, k.1 ++ more, ap (λ xs. xs ++ more) k.2 ∙ append_assoc k.0 k.1 more, k.3)

-- how adding one statement ends, at its place
abbrev pub ending_at : {P F : Type 0} → P → Result ⊤ GraphRefusal → Ending P F
ending_at p (Ok u) = done
ending_at p (Err TooManyNodes) = too_many_nodes p
ending_at p (Err TooManyEdges) = too_many_edges p
ending_at p (Err NoMemory) = no_memory

pub Ends-one : {P : Type 0} (F : Type 0) (p : P) (s : Statement) (b c : Building)
    (r : Result ⊤ GraphRefusal) → Adds s b c r
    → Ends {P = P} {F = F} b (says p s ∷ []) c (ending_at p r)
Ends-one F p s b c (Ok u) h = (h.1, sym h.0)
Ends-one F p s b c (Err TooManyNodes) h =
    ([], [], s, refl, sym h.0, subst (λ x. HasTooMany_nodes (building_with s x)) (sym h.0) h.1)
Ends-one F p s b c (Err TooManyEdges) h = (
  [],
  [],
  s,
  refl,
  sym h.0,
  rw h.0 h.1,
  subst (λ x. HasTooMany_edges (building_with s x))
      (sym h.0) h.2,
)
Ends-one F p s b c (Err NoMemory) h = ([], says p s ∷ [], refl, sym h)

-- whatever the rest ends in from c, all the steps end in from b
abbrev pub Continues : {P F : Type 0} → Building → List (Step P F) → Building → List (Step P F)
    → Type 0
Continues {P} {F} b steps c rest =
    (d : Building) (e : Ending P F) → Ends c rest d e → Ends b steps d e

pub Continues-step : {P F : Type 0} (b c d : Building) (steps front rest : List (Step P F))
    → Continues b steps c (front ++ rest) → Leads c front d → Continues b steps d rest
Continues-step b c d steps front rest h k x e last = h x e (Ends-after c d x front rest e k last)

pub Continues-stop : {P F : Type 0} (b c d : Building) (steps front rest : List (Step P F))
    (e : Ending P F) → Continues b steps c (front ++ rest) → IsCut e → Ends c front d e
    → Ends b steps d e
Continues-stop b c d steps front rest e h cut last = h d e (Ends-before c d front rest e cut last)

pub Continues-end : {P F : Type 0} (b c : Building) (steps : List (Step P F))
    → Continues b steps c [] → Ends b steps c done
Continues-end b c steps h = h c done refl
