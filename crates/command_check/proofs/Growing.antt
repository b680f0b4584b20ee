-- Lines that grow by those of one constraint.
use Rattle.std.proofs.Common.{◌≡◌, ℕ, suc, ◌+◌, ◌<◌, ◌≤◌, List, [], ◌∷◌, ◌++◌, length, get_or, take, refl, sym, ap, ◌∙◌, arith}
use Rattle.std.specs.Prelude.{map}
use Rattle.std.proofs.lemmas.List.{take_more, take_all, append-nil, append_assoc, length-take-le, length-map, map-append}
use Rattle.query_spec.specs.Query.{Query, blocks_in_scope}
use Rattle.site_spec.specs.Site.{Scope, scope_of as scope_of_query}
use Rattle.site_spec.specs.Paths.{paths_from}
use Rattle.struql_ast.specs.declared.Query as declared
use Rattle.struql_ast.specs.declared.Block.{Block}
use Rattle.struql_ast.specs.Reading.{query_of, blocks_of}
use Rattle.query_blocks.specs.declared.QueryBlocks.{QueryBlocks}
use Rattle.query_blocks.specs.Blocks.{body_of, scope_of}
use Rattle.schema.proofs.PathLists.{paths_length}
use Rattle.constraint_spec.specs.declared.Constraint.{Constraint}
use Rattle.certificate_text.specs.Written.{yes_text_by}
use Rattle.command_check.specs.Told.{CheckAnswer, yes, no, unknown, lines_of, finding_lines}
use Rattle.command_check.specs.Written.{found_in, text_by}
use Rattle.command_check.specs.declared.finding.CheckAnswer.{CheckAnswer as Kept}

-- the paths are the query's
pub paths_are : (paths : List (List ℕ)) (q : Query) (w : declared.Query) (bs : List Block) → paths ≡ paths_from [] 1 (blocks_of bs) → bs ≡ w.blocks.items → query_of w ≡ q → paths ≡ paths_from [] 1 q.blocks
paths_are paths q w bs e f same = e ∙ (ap (λ (x : List Block). paths_from [] 1 (blocks_of x)) f ∙ ap (λ (x : Query). paths_from [] 1 x.blocks) same)

-- one for each block
pub one_path_each : (q : Query) (paths : List (List ℕ)) (s : QueryBlocks) → paths ≡ paths_from [] 1 q.blocks → scope_of s ≡ scope_of_query q → length paths ≡ length s.blocks.items
one_path_each q paths s e f =
    let bodies : map body_of s.blocks.items ≡ blocks_in_scope q = ap (λ (z : Scope). z.bodies) f in
    ap length e ∙ (paths_length [] 1 [] q.blocks ∙ (sym (ap length bodies) ∙ length-map s.blocks.items body_of))

-- the lines by what the engine keeps of the query
same_lines : (q : Query) (s : QueryBlocks) (paths : List (List ℕ)) (number : ℕ) (c : Constraint) (f : CheckAnswer) → paths ≡ paths_from [] 1 q.blocks → scope_of s ≡ scope_of_query q → text_by s.version paths (scope_of s).bodies number c f ≡ lines_of q number c f
same_lines q s paths number c (yes x) e same =
    ap (λ (z : Scope). yes_text_by z.version paths z.bodies number c x) same ∙ ap (λ (ps : List (List ℕ)). yes_text_by q.version ps (blocks_in_scope q) number c x) e
same_lines q s paths number c (no G) e same = refl
same_lines q s paths number c unknown e same = refl

lines_push : (q : Query) (k : ℕ) (cs : List Constraint) (fs : List CheckAnswer) (c : Constraint) (f : CheckAnswer) → length fs ≡ length cs
    → finding_lines q k (cs ++ c ∷ []) (fs ++ f ∷ []) ≡ finding_lines q k cs fs ++ lines_of q (k + length cs) c f
lines_push q k [] [] c f e =
    let here : k ≡ k + 0 = omega arith in
    append-nil (lines_of q k c f) ∙ ap (λ (n : ℕ). lines_of q n c f) here
lines_push q k [] (g ∷ fs) c f e = (let long : suc (length fs) ≡ 0 = e in let none : ⊥ = omega (arith, long) in absurd none)
lines_push q k (d ∷ cs) [] c f e = (let long : 0 ≡ suc (length cs) = e in let none : ⊥ = omega (arith, long) in absurd none)
lines_push q k (d ∷ cs) (g ∷ fs) c f e =
    let here : suc k + length cs ≡ k + suc (length cs) = omega arith in
    let long : suc (length fs) ≡ suc (length cs) = e in
    let less : length fs ≡ length cs = omega (arith, long) in
    ap (λ (z : List ℕ). lines_of q k d g ++ z) (lines_push q (suc k) cs fs c f less)
    ∙ sym (append_assoc (lines_of q k d g) (finding_lines q (suc k) cs fs) (lines_of q (suc k + length cs) c f))
    ∙ ap (λ (n : ℕ). (lines_of q k d g ++ finding_lines q (suc k) cs fs) ++ lines_of q n c f) here

-- what is found, one more
found_more : (vs : List Kept) (i : ℕ) (v : Kept) → i < length vs → v ≡ get_or vs i v → map found_in (take (i + 1) vs) ≡ map found_in (take i vs) ++ found_in v ∷ []
found_more vs i v l at =
    ap (map found_in) (take_more vs i v l ∙ ap (λ (z : Kept). take i vs ++ z ∷ []) (sym at)) ∙ map-append found_in (take i vs) (v ∷ [])

-- a loop's step
pub lines_more : (q : Query) (s : QueryBlocks) (paths : List (List ℕ)) → paths ≡ paths_from [] 1 q.blocks → scope_of s ≡ scope_of_query q → (cs : List Constraint) (vs : List Kept) (i number : ℕ) (c : Constraint) (v : Kept) (old new : List ℕ)
    → length vs ≡ length cs → i < length cs → number ≡ i + 1 → c ≡ get_or cs i c → v ≡ get_or vs i v → old ≡ finding_lines q 1 (take i cs) (map found_in (take i vs)) → new ≡ old ++ text_by s.version paths (scope_of s).bodies number c (found_in v)
    → new ≡ finding_lines q 1 (take (i + 1) cs) (map found_in (take (i + 1) vs))
lines_more q s paths e f cs vs i number c v old new same l n at at2 before longer =
    let front : take (i + 1) cs ≡ take i cs ++ c ∷ [] = take_more cs i c l ∙ ap (λ (z : Constraint). take i cs ++ z ∷ []) (sym at) in
    let front2 : map found_in (take (i + 1) vs) ≡ map found_in (take i vs) ++ found_in v ∷ [] = found_more vs i v (omega (arith, same, l)) at2 in
    let long = length-take-le i cs (omega (arith, l)) in
    let long2 : length (map found_in (take i vs)) ≡ i = length-map (take i vs) found_in ∙ length-take-le i vs (omega (arith, same, l)) in
    let here : number ≡ 1 + length (take i cs) = omega (arith, n, long) in
    longer
    ∙ ap (λ (z : List ℕ). z ++ text_by s.version paths (scope_of s).bodies number c (found_in v)) before
    ∙ ap (λ (z : List ℕ). finding_lines q 1 (take i cs) (map found_in (take i vs)) ++ z) (same_lines q s paths number c (found_in v) e f ∙ ap (λ (m : ℕ). lines_of q m c (found_in v)) here)
    ∙ sym (lines_push q 1 (take i cs) (map found_in (take i vs)) c (found_in v) (long2 ∙ sym long))
    ∙ ap (λ (z : List Constraint). finding_lines q 1 z (map found_in (take i vs) ++ found_in v ∷ [])) (sym front)
    ∙ ap (λ (z : List CheckAnswer). finding_lines q 1 (take (i + 1) cs) z) (sym front2)

-- its end
pub lines_all : (q : Query) (cs : List Constraint) (vs : List Kept) (i : ℕ) (text : List ℕ) → length vs ≡ length cs → length cs ≤ i → text ≡ finding_lines q 1 (take i cs) (map found_in (take i vs)) → text ≡ finding_lines q 1 cs (map found_in vs)
lines_all q cs vs i text same l e =
    e ∙ ap (λ (z : List Constraint). finding_lines q 1 z (map found_in (take i vs))) (take_all i cs l) ∙ ap (λ (z : List Kept). finding_lines q 1 cs (map found_in z)) (take_all i vs (omega (arith, same, l)))
