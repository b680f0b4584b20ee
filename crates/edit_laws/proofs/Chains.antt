-- The variables of a block's chain have different names.
use Rattle.std.proofs.Common.{◌≡◌, ◌≢◌, ◌<◌, zero, suc, refl, List, [], ◌∷◌, length, get_or, sym, ap, ◌∙◌, subst, arith}
use Rattle.std.specs.Prelude.{true, not, map, filter, All, AllPairs, Contains}
use Rattle.std.specs.List.{flat_map, list_any}
use Rattle.std.proofs.lemmas.List.{length-map, get_or-map}
use Rattle.std.proofs.lemmas.List.Elements.{All-nil, All-cons, All-contains}
use Rattle.std.proofs.lemmas.List.Kept.{AllPairs-cons, AllPairs-filter}
use Rattle.graph_spec.specs.DataGraph.{Name}
use Rattle.query_spec.specs.declared.Variable.{Variable}
use Rattle.query_spec.specs.Query.{Condition}
use Rattle.query_spec.specs.Mentions.{same_name, names, arc_names, first_mentions, variables_of}
use Rattle.edit_laws.proofs.Guards.{same_itself, by_test}

abbrev pub AreDistinct : List Variable → Type 0
AreDistinct variables = AllPairs (λ v w. v.name ≢ w.name) variables

pub head_differs : (v : Variable) (variables : List Variable) → AreDistinct (v ∷ variables) → (w : Variable)
    → Contains variables w → v.name ≢ w.name
head_differs v variables d w c =
    All-contains (λ (x : Variable). v.name ≢ x.name) variables w
    (λ k x lt. d zero (suc k) x (omega arith) (omega arith)) c

pub tail_distinct : (v : Variable) (variables : List Variable) → AreDistinct (v ∷ variables) → AreDistinct variables
tail_distinct v variables d = λ i j x l m. d (suc i) (suc j) x (omega arith) (omega arith)

filtered_apart : (x : Name) (ys : List Name) → All (λ y. x ≢ y) (filter (λ y. not (same_name x y)) ys)
filtered_apart x [] = All-nil (λ y. x ≢ y)
filtered_apart x (y ∷ ys) =
    by_test (same_name x y) (All (λ z. x ≢ z) (filter (λ z. not (same_name x z)) (y ∷ ys)))
    (λ t. rw t (filtered_apart x ys))
    (λ f. rw f (All-cons (λ z. x ≢ z) y (filter (λ z. not (same_name x z)) ys)
    (λ e. (let s : same_name x y ≡ true = subst (λ (z : Name). same_name x z ≡ true) e (same_itself x) in cc))
    (filtered_apart x ys)))

distinct_first : (xs : List Name) → AllPairs (λ x y. x ≢ y) (first_mentions xs)
distinct_first [] = λ i j d l m. absurd (omega arith)
distinct_first (x ∷ xs) = AllPairs-cons (λ y z. y ≢ z) x (filter (λ y. not (same_name x y)) (first_mentions xs))
    (filtered_apart x (first_mentions xs)) (AllPairs-filter (λ y z. y ≢ z) (λ y. not (same_name x y))
    (first_mentions xs) (distinct_first xs))

distinct_mapped : (f : Name → Variable) → ((x : Name) → (f x).name ≡ x) → (xs : List Name) → AllPairs (λ x y. x ≢ y) xs
    → AreDistinct (map f xs)
distinct_mapped f named xs h = λ i j d l m e.
    let n : j < length xs = subst (λ k. j < k) (length-map xs f) m in
    let o : i < length xs = omega arith in
    let at_i : (get_or (map f xs) i d).name ≡ get_or xs i [] = ap (λ (v : Variable). v.name) (get_or-map f xs i [] d o)
    ∙ named (get_or xs i []) in
    let at_j : (get_or (map f xs) j d).name ≡ get_or xs j [] = ap (λ (v : Variable). v.name) (get_or-map f xs j [] d n)
    ∙ named (get_or xs j []) in
    h i j [] l n (sym at_i ∙ (e ∙ at_j))

pub distinct : (conditions : List Condition) → AreDistinct (variables_of conditions)
distinct conditions =
    let f : Name → Variable = λ x. record { name = x; arc = list_any (same_name x) (flat_map arc_names conditions) } in
    distinct_mapped f (λ x. refl) (first_mentions (flat_map names conditions))
    (distinct_first (flat_map names conditions))
