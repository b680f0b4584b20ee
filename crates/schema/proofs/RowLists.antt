-- One link more, one block more, and the links that start at a function.
use Rattle.std.proofs.Common.{◌≡◌, ℕ, suc, ◌+◌, ◌<◌, List, [], ◌∷◌, ◌++◌, Bool, true, false, length, map, take, get_or, refl, sym, ap, subst, ◌∙◌, arith, append_assoc, length-append, length-take}
use Rattle.std.specs.Prelude.{cond, filter, Contains}
use Rattle.std.specs.Ordering.{is_eq}
use Rattle.std.proofs.lemmas.List.{append-nil, take_more, map-append, length-map}
use Rattle.sd_value.specs.Members.{Contains-here, Contains-there}
use Rattle.sd_value.specs.Names.{Name}
use Rattle.sd_value.specs.Order.{bytes_cmp}
use Rattle.query_spec.specs.Query as plain
use Rattle.query_spec.specs.Query.{Condition, Target, made, Link, Body}
use Rattle.struql_ast.specs.declared.Link.{Link as WrittenLink}
use Rattle.struql_ast.specs.Reading.{link_of}
use Rattle.query_blocks.specs.declared.QueryBlock.{QueryBlock}
use Rattle.query_blocks.specs.Blocks.{body_of, IsMade}
use Rattle.site_spec.specs.Schema as spec
use Rattle.site_spec.specs.Schema.{edges_in, edges_from, starts_at}
use Rattle.schema.specs.declared.SchemaEdge.{SchemaEdge}
use Rattle.schema.specs.Rows.{conditions_text, row_of, row, rows_in, body_rows, rows_from}

pub rows_push : (n : ℕ) (path conditions : List ℕ) (ks : List Link) (k : Link)
    → rows_in n path conditions (ks ++ k ∷ []) ≡ rows_in n path conditions ks ++ row_of (n + length ks) path conditions k ∷ []
rows_push n path conditions [] k =
    let same : n ≡ n + length {A = Link} [] = omega arith in
    ap (λ m. row_of m path conditions k ∷ []) same
rows_push n path conditions (x ∷ ks) k =
    let later = rows_push (suc n) path conditions ks k in
    let same : suc n + length ks ≡ n + length (x ∷ ks) = omega arith in
    ap (λ rows. row_of n path conditions x ∷ rows) (later ∙ ap (λ m. rows_in (suc n) path conditions ks ++ row_of m path conditions k ∷ []) same)

pub rows_length : (n : ℕ) (path conditions : List ℕ) (ks : List Link) → length (rows_in n path conditions ks) ≡ length ks
rows_length n path conditions [] = refl
rows_length n path conditions (k ∷ ks) = ap suc (rows_length (suc n) path conditions ks)

-- the links of a block, by their rows
pub rows_are : (version n : ℕ) (path : List ℕ) (conditions : List Condition) (ks : List Link) → map (row version) (edges_in n path conditions ks) ≡ rows_in n path (conditions_text version conditions) ks
rows_are version n path conditions [] = refl
rows_are version n path conditions (k ∷ ks) = ap (λ rows. row_of n path (conditions_text version conditions) k ∷ rows) (rows_are version (suc n) path conditions ks)

pub edges_length : (n : ℕ) (path : List ℕ) (conditions : List Condition) (ks : List Link) → length (edges_in n path conditions ks) ≡ length ks
edges_length n path conditions [] = refl
edges_length n path conditions (k ∷ ks) = ap suc (edges_length (suc n) path conditions ks)

-- the links of one block more
pub edges_push : (n : ℕ) (paths : List (List ℕ)) (bodies : List Body) (path : List ℕ) (b : Body) → length paths ≡ length bodies
    → edges_from n (paths ++ path ∷ []) (bodies ++ b ∷ []) ≡ edges_from n paths bodies ++ edges_in (n + length (edges_from n paths bodies)) path b.conditions b.links
edges_push n [] [] path b same =
    let none : n ≡ n + length {A = spec.SchemaEdge} [] = omega arith in
    append-nil (edges_in n path b.conditions b.links) ∙ ap (λ m. edges_in m path b.conditions b.links) none
edges_push n [] (c ∷ bodies) path b same = absurd (omega (arith, same))
edges_push n (p ∷ paths) [] path b same = absurd (omega (arith, same))
edges_push n (p ∷ paths) (c ∷ bodies) path b same =
    let here = edges_in n p c.conditions c.links in
    let later = edges_from (n + length c.links) paths bodies in
    let step = edges_push (n + length c.links) paths bodies path b (omega (arith, same)) in
    let count : (n + length c.links) + length later ≡ n + length (here ++ later) = omega (arith, length-append {A = spec.SchemaEdge}, edges_length n p c.conditions c.links) in
    ap (λ rows. here ++ rows) (step ∙ ap (λ m. later ++ edges_in m path b.conditions b.links) count)
    ∙ sym (append_assoc here later (edges_in (n + length (here ++ later)) path b.conditions b.links))

-- ---- one row more in the loop over a block's links

pub row_more : (ks : List WrittenLink) (i : ℕ) (k : WrittenLink) (start found pushed : List SchemaEdge) (new : SchemaEdge) (number : ℕ) (path conditions : List ℕ) → i < length ks → k ≡ get_or ks i k
    → found ≡ start ++ rows_in (length start + 1) path conditions (map link_of (take i ks))
    → number ≡ length found + 1 → new ≡ row_of number path conditions (link_of k) → pushed ≡ found ++ new ∷ []
    → pushed ≡ start ++ rows_in (length start + 1) path conditions (map link_of (take (i + 1) ks))
row_more ks i k start found pushed new number path conditions long here f count is more =
    let all : take (i + 1) ks ≡ take i ks ++ k ∷ [] = take_more ks i k long ∙ ap (λ (y : WrittenLink). take i ks ++ y ∷ []) (sym here) in
    let before = map link_of (take i ks) in
    let rows = rows_in (length start + 1) path conditions before in
    let n : number ≡ length start + 1 + length before = omega (arith, count, ap length f, length-append {A = SchemaEdge}, rows_length (length start + 1) path conditions before) in
    let last : new ≡ row_of (length start + 1 + length before) path conditions (link_of k) = is ∙ ap (λ m. row_of m path conditions (link_of k)) n in
    more ∙ (ap (λ xs. xs ++ new ∷ []) f ∙ (append_assoc start rows (new ∷ [])
    ∙ ap (λ xs. start ++ xs) (ap (λ x. rows ++ x ∷ []) last
    ∙ (sym (rows_push (length start + 1) path conditions before (link_of k)) ∙ ap (λ xs. rows_in (length start + 1) path conditions xs) (sym (ap (map link_of) all ∙ map-append link_of (take i ks) (k ∷ [])))))))

-- ---- one block more in the loop over blocks

pub block_more : (version : ℕ) (paths : List (List ℕ)) (blocks : List QueryBlock) (i : ℕ) (path : List ℕ) (s : QueryBlock) (found new : List SchemaEdge) → length paths ≡ length blocks → i < length blocks
    → path ≡ get_or paths i path → s ≡ get_or blocks i s
    → found ≡ map (row version) (edges_from 1 (take i paths) (map body_of (take i blocks)))
    → new ≡ found ++ body_rows version (length found + 1) path (body_of s)
    → new ≡ map (row version) (edges_from 1 (take (i + 1) paths) (map body_of (take (i + 1) blocks)))
block_more version paths blocks i path s found new same long at here f more =
    let ps : take (i + 1) paths ≡ take i paths ++ path ∷ [] = take_more paths i path (omega (arith, same, long)) ∙ ap (λ p. take i paths ++ p ∷ []) (sym at) in
    let bs : take (i + 1) blocks ≡ take i blocks ++ s ∷ [] = take_more blocks i s long ∙ ap (λ (b : QueryBlock). take i blocks ++ b ∷ []) (sym here) in
    let bodies = map body_of (take i blocks) in
    let ms : map body_of (take (i + 1) blocks) ≡ bodies ++ body_of s ∷ [] = ap (map body_of) bs ∙ map-append body_of (take i blocks) (s ∷ []) in
    let equal : length (take i paths) ≡ length bodies = omega (arith, length-take {A = List ℕ}, length-take {A = QueryBlock}, length-map (take i blocks) body_of, same) in
    let edges = edges_from 1 (take i paths) bodies in
    let b = body_of s in
    let push = edges_push 1 (take i paths) bodies path b equal in
    let count : length found + 1 ≡ 1 + length edges = omega (arith, ap length f, length-map edges (row version)) in
    let rows : body_rows version (length found + 1) path b ≡ map (row version) (edges_in (1 + length edges) path b.conditions b.links) =
    ap (λ n. body_rows version n path b) count ∙ sym (rows_are version (1 + length edges) path b.conditions b.links) in
    let left : new ≡ map (row version) edges ++ map (row version) (edges_in (1 + length edges) path b.conditions b.links) = more ∙ (ap (λ xs. xs ++ body_rows version (length found + 1) path b) f ∙ ap (λ xs. map (row version) edges ++ xs) rows) in
    let right : map (row version) (edges_from 1 (take (i + 1) paths) (map body_of (take (i + 1) blocks))) ≡ map (row version) edges ++ map (row version) (edges_in (1 + length edges) path b.conditions b.links) =
    (λ j. map (row version) (edges_from 1 (ps j) (ms j))) ∙ (ap (map (row version)) push ∙ map-append (row version) edges (edges_in (1 + length edges) path b.conditions b.links)) in
    left ∙ sym right
