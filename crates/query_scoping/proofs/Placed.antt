-- The blocks of a query with the conditions round them, level by level.
use Rattle.std.proofs.Common.{◌≡◌, List, [], ◌∷◌, ◌++◌, refl, sym, ap, ◌∙◌, subst, append_assoc, ⊎_elim}
use Rattle.std.specs.Prelude.{map, Contains}
use Rattle.std.specs.List.{flat_map}
use Rattle.std.proofs.lemmas.List.{append-nil, map-append}
use Rattle.std.proofs.lemmas.List.Elements.{Contains-append_left, Contains-append_right, Contains-append_cases}
use Rattle.sd_value.specs.Members.{Contains-nil, Contains-cons_cases, Contains-here, Contains-there}
use Rattle.query_spec.specs.Query.{with_outer, Body}
use Rattle.struql_ast.specs.Written.{Condition, Clauses, Blocks, no_blocks, block}
use Rattle.struql_check.specs.declared.mentions.VariableUse.{VariableUse}
use Rattle.struql_check.specs.Scope.{mentions, ScopedBlock, within}
use Rattle.query_scoping.proofs.Plain.{condition_plain, clauses_plain, blocks_plain}

pub record Placed : Type 0 where
  pub levels : List (List Condition)
  pub clauses : Clauses

abbrev pub joined : {X : Type 0} → List (List X) → List X
joined xss = flat_map (λ xs. xs) xss

abbrev pub placed_within : List (List Condition) → Blocks → List Placed
placed_within levels no_blocks = []
placed_within levels (block c inner span after) =
    let here = levels ++ c.conditions ∷ [] in
    record { levels = here; clauses = c } ∷ (placed_within here inner ++ placed_within levels after)

abbrev pub round_of : List (List Condition) → List (List VariableUse)
round_of levels = map (flat_map mentions) levels

abbrev pub scoped_of : Placed → ScopedBlock
scoped_of p = record { round = round_of p.levels; clauses = p.clauses }

abbrev pub body_at : Placed → Body
body_at p = record (clauses_plain p.clauses) { conditions = map condition_plain (joined p.levels) }

pub scoped_same : (levels : List (List Condition)) (bs : Blocks) → within (round_of levels) bs ≡ map scoped_of (placed_within levels bs)
scoped_same levels no_blocks = refl
scoped_same levels (block c inner span after) =
    let here = levels ++ c.conditions ∷ [] in
    let e : round_of levels ++ flat_map mentions c.conditions ∷ [] ≡ round_of here = sym (map-append (flat_map mentions) levels (c.conditions ∷ [])) in
    let i = scoped_same here inner in
    let a = scoped_same levels after in
    rw (e, i, a) (ap (λ (xs : List ScopedBlock). record { round = round_of here; clauses = c } ∷ xs) (sym (map-append scoped_of (placed_within here inner) (placed_within levels after))))

pub joined_push : {X : Type 0} (xss : List (List X)) (xs : List X) → joined (xss ++ xs ∷ []) ≡ joined xss ++ xs
joined_push [] xs = append-nil xs
joined_push (ys ∷ xss) xs = ap (λ l. ys ++ l) (joined_push xss xs) ∙ sym (append_assoc ys (joined xss) xs)

pub bodies_same : (levels : List (List Condition)) (bs : Blocks) → with_outer (map condition_plain (joined levels)) (blocks_plain bs) ≡ map body_at (placed_within levels bs)
bodies_same levels no_blocks = refl
bodies_same levels (block c inner span after) =
    let here = levels ++ c.conditions ∷ [] in
    let e : map condition_plain (joined levels) ++ map condition_plain c.conditions ≡ map condition_plain (joined here) =
    sym (map-append condition_plain (joined levels) c.conditions) ∙ ap (map condition_plain) (sym (joined_push levels c.conditions)) in
    let i = bodies_same here inner in
    let a = bodies_same levels after in
    rw (e, i, a) (ap (λ (xs : List Body). body_at (record { levels = here; clauses = c }) ∷ xs) (sym (map-append body_at (placed_within here inner) (placed_within levels after))))

-- what each step down to a block keeps holds of the levels of each block
pub walk_keeps : (Q : List (List Condition) → Type 0) (N : Placed → Type 0)
    → ((levels : List (List Condition)) (c : Clauses) → Q levels → N (record { levels = levels ++ c.conditions ∷ []; clauses = c }) → Q (levels ++ c.conditions ∷ []))
    → (levels : List (List Condition)) (bs : Blocks) → Q levels → ((p : Placed) → Contains (placed_within levels bs) p → N p)
    → (p : Placed) → Contains (placed_within levels bs) p → Q p.levels
walk_keeps Q N step levels no_blocks q n p h = absurd (Contains-nil p h)
walk_keeps Q N step levels (block c inner span after) q n p h =
    let here = levels ++ c.conditions ∷ [] in
    let first : Placed = record { levels = here; clauses = c } in
    let rest = placed_within here inner ++ placed_within levels after in
    let q_here : Q here = step levels c q (n first (Contains-here first rest)) in
    ⊎_elim
    (λ e. subst (λ (r : Placed). Q r.levels) e q_here)
    (λ k. ⊎_elim
    (λ i. walk_keeps Q N step here inner q_here (λ r m. n r (Contains-there first rest r (Contains-append_left (placed_within here inner) (placed_within levels after) r m))) p i)
    (λ a. walk_keeps Q N step levels after q (λ r m. n r (Contains-there first rest r (Contains-append_right (placed_within here inner) (placed_within levels after) r m))) p a)
    (Contains-append_cases (placed_within here inner) (placed_within levels after) p k))
    (Contains-cons_cases first rest p h)
