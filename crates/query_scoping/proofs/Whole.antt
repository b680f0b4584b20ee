-- All blocks of a query without faults are safe.
use Rattle.std.proofs.Common.{◌≡◌, ℕ, ◌+◌, ◌<◌, ◌≤◌, ◌^◌, List, [], ◌∷◌, ◌++◌, length, sym, ap, ◌∙◌, subst, length-append, ⊎_elim, inl, arith}
use Rattle.std.specs.Prelude.{map, Contains, All}
use Rattle.std.specs.List.{flat_map}
use Rattle.std.proofs.lemmas.List.{length-map}
use Rattle.std.proofs.lemmas.List.Elements.{All-contains, Contains-append_left, Contains-append_right, Contains-append_cases}
use Rattle.sd_value.specs.Members.{Contains-nil, Contains-cons_cases, Contains-here, Contains-there, Contains-map, Contains-mapped}
use Rattle.query_spec.specs.Query as plain
use Rattle.query_spec.specs.Query.{Body, blocks_in_scope}
use Rattle.query_spec.specs.Mentions.{IsFlat}
use Rattle.struql_ast.specs.declared.Query as declared_query
use Rattle.struql_ast.specs.Reading.{query_of}
use Rattle.struql_ast.specs.Written.{Condition, Blocks, no_blocks, block, query_written}
use Rattle.struql_check.specs.Scope.{ScopedBlock}
use Rattle.struql_check.specs.Faults.{IsFaultless}
use Rattle.struql_check.specs.Parsed.{IsParsed, bodies, bodies_within}
use Rattle.query_scoping.specs.Blocks.{IsSafe}
use Rattle.query_scoping.proofs.Plain.{condition_plain, clauses_plain, blocks_plain, query_plain, query_same}
use Rattle.query_scoping.proofs.Placed.{Placed, joined, joined_push, placed_within, scoped_of, body_at, scoped_same, bodies_same, walk_keeps}
use Rattle.query_scoping.proofs.WellMade.{chain_conditions}
use Rattle.query_scoping.proofs.Safe.{IsKept, IsFine, kept_step, kept_none, placed_safe}

placed_body : (levels : List (List Condition)) (bs : Blocks) (p : Placed) → Contains (placed_within levels bs) p → Contains (bodies_within (blocks_plain bs)) (clauses_plain p.clauses)
placed_body levels no_blocks p h = absurd (Contains-nil p h)
placed_body levels (block c inner span after) p h =
    let here = levels ++ c.conditions ∷ [] in
    let first : Placed = record { levels = here; clauses = c } in
    let i = bodies_within (blocks_plain inner) in
    let a = bodies_within (blocks_plain after) in
    ⊎_elim
    (λ e. subst (λ (r : Placed). Contains (clauses_plain c ∷ (i ++ a)) (clauses_plain r.clauses)) e (Contains-here (clauses_plain c) (i ++ a)))
    (λ k. ⊎_elim
    (λ m. Contains-there (clauses_plain c) (i ++ a) (clauses_plain p.clauses) (Contains-append_left i a (clauses_plain p.clauses) (placed_body here inner p m)))
    (λ m. Contains-there (clauses_plain c) (i ++ a) (clauses_plain p.clauses) (Contains-append_right i a (clauses_plain p.clauses) (placed_body levels after p m)))
    (Contains-append_cases (placed_within here inner) (placed_within levels after) p k))
    (Contains-cons_cases first (placed_within here inner ++ placed_within levels after) p h)

abbrev all_conditions : List Body → List plain.Condition
all_conditions bs = flat_map (λ b. b.conditions) bs

all_append : (xs ys : List Body) → length (all_conditions (xs ++ ys)) ≡ length (all_conditions xs) + length (all_conditions ys)
all_append [] ys = omega arith
all_append (x ∷ xs) ys =
    let r = all_append xs ys in
    let e = length-append x.conditions (all_conditions (xs ++ ys)) in
    let f = length-append x.conditions (all_conditions xs) in
    omega arith

-- a chain has no more conditions than the query
counted : (levels : List (List Condition)) (bs : Blocks) (p : Placed) → Contains (placed_within levels bs) p → length (joined p.levels) ≤ length (joined levels) + length (all_conditions (bodies_within (blocks_plain bs)))
counted levels no_blocks p h = absurd (Contains-nil p h)
counted levels (block c inner span after) p h =
    let here = levels ++ c.conditions ∷ [] in
    let first : Placed = record { levels = here; clauses = c } in
    let i = bodies_within (blocks_plain inner) in
    let a = bodies_within (blocks_plain after) in
    let own : length (joined here) ≡ length (joined levels) + length c.conditions = ap length (joined_push levels c.conditions) ∙ length-append (joined levels) c.conditions in
    let whole : length (all_conditions (clauses_plain c ∷ (i ++ a))) ≡ length c.conditions + length (all_conditions (i ++ a)) =
    length-append (map condition_plain c.conditions) (all_conditions (i ++ a)) ∙ ap (λ (n : ℕ). n + length (all_conditions (i ++ a))) (length-map c.conditions condition_plain) in
    let parts = all_append i a in
    ⊎_elim
    (λ e. (let n : length (joined p.levels) ≡ length (joined here) = ap (λ (r : Placed). length (joined r.levels)) (sym e) in omega arith))
    (λ k. ⊎_elim
    (λ m. (let n = counted here inner p m in omega arith))
    (λ m. (let n = counted levels after p m in omega arith))
    (Contains-append_cases (placed_within here inner) (placed_within levels after) p k))
    (Contains-cons_cases first (placed_within here inner ++ placed_within levels after) p h)

pub all_safe : (q : declared_query.Query) → IsFaultless (query_written q) → IsParsed (query_of q) → (b : Body) → Contains (blocks_in_scope (query_of q)) b → IsSafe (query_of q).version b
all_safe q faultless parsed b h =
    let bs = (query_written q).blocks in
    let same = query_same q in
    let plainly : IsParsed (query_plain (query_written q)) = subst IsParsed (sym same) parsed in
    let k : Contains (map body_at (placed_within [] bs)) b = subst (λ (xs : List Body). Contains xs b) (bodies_same [] bs) (subst (λ (r : plain.Query). Contains (blocks_in_scope r) b) (sym same) h) in
    let found = Contains-map body_at (placed_within [] bs) b k in
    let fine : (p : Placed) → Contains (placed_within [] bs) p → IsFine q.version p = λ p m. record {
      faultless = λ check at f. faultless check at (inl (scoped_of p, subst (λ (xs : List ScopedBlock). Contains xs (scoped_of p)) (sym (scoped_same [] bs)) (Contains-mapped scoped_of (placed_within [] bs) p m), f));
      flat = All-contains (λ (c : Body). All IsFlat c.conditions) (bodies (query_plain (query_written q))) (clauses_plain p.clauses) plainly.flat (placed_body [] bs p m);
    } in
    let kept = walk_keeps IsKept (IsFine q.version) (kept_step q.version) [] bs kept_none fine found.0 found.2 in
    let count = counted [] bs found.0 found.2 in
    let total = plainly.few_conditions in
    let few : length (chain_conditions found.0.levels) < 2 ^ 32 = (let e = length-map (joined found.0.levels) condition_plain in omega arith) in
    subst (λ (c : Body). IsSafe q.version c) found.1 (placed_safe q.version found.0 parsed.version (fine found.0 found.2).faultless kept few)
