-- Taking the steps of a text has one end, besides out of memory.
use Rattle.std.specs.Prelude.{◌≡◌, ◌⊎◌, ◌≤◌, List, [], ◌∷◌, ◌++◌, length, ⊤}
use Rattle.std.proofs.Common.{refl, sym, ◌∙◌, subst, inl, inr, arith}
use Rattle.sd_graph.specs.Statement.{Statement, Building, building_with, IsWithin, HasTooMany_nodes, HasTooMany_edges}
use Rattle.sd_graph.specs.Stating.{Step, says, fails, Ending, done, fault, too_many_nodes, too_many_edges, no_memory, Leads, Ends}

-- an ending other than out of memory
abbrev pub IsTold : {P F : Type 0} → Ending P F → Type 0
IsTold done = ⊤
IsTold (fault f) = ⊤
IsTold (too_many_nodes p) = ⊤
IsTold (too_many_edges p) = ⊤
IsTold no_memory = ⊥

-- there is no room for the statement at this place
abbrev HasNoRoom : {P F : Type 0} → Building → Building → P → Statement → Ending P F → Type 0
HasNoRoom b c p s e =
    (b ≡ c) × (((e ≡ too_many_nodes p) × HasTooMany_nodes (building_with s b))
    ⊎ ((e ≡ too_many_edges p) × (length (building_with s b).graph.nodes ≤ b.limits.nodes)
    × HasTooMany_edges (building_with s b)))

-- how the steps end, found from the front
abbrev Comes : {P F : Type 0} → Building → List (Step P F) → Building → Ending P F → Type 0
Comes b [] c e = (b ≡ c) × (e ≡ done)
Comes b (fails f ∷ steps) c e = (b ≡ c) × (e ≡ fault f)
Comes b (says p s ∷ steps) c e =
    (IsWithin (building_with s b) × Comes (building_with s b) steps c e) ⊎ HasNoRoom b c p s e

after : {P F : Type 0} (b c d : Building) (front steps : List (Step P F)) (e : Ending P F)
    → Leads b front c → Comes c steps d e → Comes b (front ++ steps) d e
after b c d [] steps e h k = subst (λ x. Comes x steps d e) (sym h) k
after b c d (says p s ∷ front) steps e h k =
    inl (h.0, after (building_with s b) c d front steps e h.1 k)
after b c d (fails f ∷ front) steps e h k = absurd h

whole : {P F : Type 0} (b c : Building) (steps : List (Step P F)) → Leads b steps c
    → Comes b steps c done
whole b c [] h = (h, refl)
whole b c (says p s ∷ steps) h = inl (h.0, whole (building_with s b) c steps h.1)
whole b c (fails f ∷ steps) h = absurd h

comes : {P F : Type 0} (b c : Building) (steps : List (Step P F)) (e : Ending P F) → IsTold e
    → Ends b steps c e → Comes b steps c e
comes b c steps done told h = whole b c steps h
comes b c steps (fault f) told h =
    subst (λ xs. Comes b xs c (fault f)) (sym h.2)
    (after b c c h.0 (fails f ∷ h.1) (fault f) h.3 (refl, refl))
comes b c steps (too_many_nodes p) told h =
    subst (λ xs. Comes b xs c (too_many_nodes p)) (sym h.3)
    (after b c c h.0 (says p h.2 ∷ h.1) (too_many_nodes p) h.4 (inr (refl, inl (refl, h.5))))
comes b c steps (too_many_edges p) told h =
    subst (λ xs. Comes b xs c (too_many_edges p)) (sym h.3)
    (after b c c h.0 (says p h.2 ∷ h.1) (too_many_edges p) h.4 (inr (refl, inr (refl, h.5, h.6))))
comes b c steps no_memory told h = absurd told

abbrev Same : {P F : Type 0} → Building → Building → Ending P F → Ending P F → Type 0
Same c d e f = (c ≡ d) × (e ≡ f)

no_room : {P F : Type 0} (b c : Building) (p : P) (s : Statement) (e : Ending P F)
    → IsWithin (building_with s b) → HasNoRoom b c p s e → ⊥
no_room b c p s e within h =
    elim h.1 [ inl nodes ↦ omega (arith, within.0, nodes.1) | inr edges ↦ omega (arith, within.1, edges.2) ]

one_refusal : {P F : Type 0} (b c d : Building) (p : P) (s : Statement) (e f : Ending P F)
    → HasNoRoom b c p s e → HasNoRoom b d p s f → Same c d e f
one_refusal b c d p s e f h k = (
  sym h.0 ∙ k.0,
  elim h.1 [
    | inl x ↦ elim k.1 [ inl y ↦ x.0 ∙ sym y.0 | inr y ↦ absurd (omega (arith, x.1, y.1)) ]
    | inr x ↦ elim k.1 [ inl y ↦ absurd (omega (arith, x.1, y.1)) | inr y ↦ x.0 ∙ sym y.0 ]
  ],
)

comes_once : {P F : Type 0} (b c d : Building) (steps : List (Step P F)) (e f : Ending P F)
    → Comes b steps c e → Comes b steps d f → Same c d e f
comes_once b c d [] e f h k = (sym h.0 ∙ k.0, h.1 ∙ sym k.1)
comes_once b c d (fails x ∷ steps) e f h k = (sym h.0 ∙ k.0, h.1 ∙ sym k.1)
comes_once b c d (says p s ∷ steps) e f h k = elim h [
  | inl x ↦ elim k [
    | inl y ↦ comes_once (building_with s b) c d steps e f x.1 y.1
    | inr y ↦ absurd
        (no_room b d p s f x.0 y)
  ]
  | inr x ↦ elim k
      [ inl y ↦ absurd (no_room b c p s e y.0 x) | inr y ↦ one_refusal b c d p s e f x y ]
]

-- two ends of the same steps, neither of them out of memory, are one
pub ends_once : {P F : Type 0} (b c d : Building) (steps : List (Step P F)) (e f : Ending P F)
    → IsTold e → IsTold f → Ends b steps c e → Ends b steps d f → (c ≡ d) × (e ≡ f)
ends_once b c d steps e f told known h k =
    comes_once b c d steps e f (comes b c steps e told h) (comes b d steps f known k)
