-- The chain of each block of a query without faults is well made.
use Rattle.std.proofs.Common.{◌≡◌, ◌≢◌, ℕ, ◌<◌, ◌≤◌, ◌^◌, List, [], ◌∷◌, ◌++◌, length, get_or, refl, sym, ap, ◌∙◌, subst, append_assoc, length-append, arith}
use Rattle.std.specs.Prelude.{true, false, not, map, filter, Contains, All, AllPairs, IsTrue}
use Rattle.std.specs.List.{flat_map, list_any}
use Rattle.std.proofs.lemmas.List.{append-nil, length-map, get_or-map}
use Rattle.std.proofs.lemmas.List.Elements.{All-nil, All-cons, All-weaker, All-contains_itself}
use Rattle.std.proofs.lemmas.List.Kept.{AllPairs-cons, AllPairs-filter}
use Rattle.sd_value.specs.Members.{Contains-map, Contains-mapped}
use Rattle.query_spec.specs.declared.Variable.{Variable}
use Rattle.query_spec.specs.Query as plain
use Rattle.query_spec.specs.Mentions.{same_name, names, arc_names, node_names, first_mentions, chain_of, IsFlat, condition_positions, IsVersion, IsWellMade}
use Rattle.struql_ast.specs.Written.{Name, Condition}
use Rattle.struql_check.specs.declared.mentions.VariableUse.{VariableUse}
use Rattle.struql_check.specs.Faults.{IsPast}
use Rattle.struql_check.specs.Known.{names_of}
use Rattle.query_spec.proofs.MentionLaws.{by_test, same_itself}
use Rattle.struql_check.proofs.NameLists.{names_new, names_known, unknown_names}
use Rattle.query_scoping.proofs.Plain.{condition_plain}
use Rattle.query_scoping.proofs.Placed.{joined, round_of}
use Rattle.query_scoping.proofs.Sorts.{IsSound}
use Rattle.query_scoping.proofs.Chains.{name_of, all_names_same, round_joined, never_both, first_to, first_from, any_contains, contains_any}

pub all_of : {X : Type 0} (P : X → Type 0) (xs : List X) → ((x : X) → Contains xs x → P x) → All P xs
all_of P xs h = All-weaker (Contains xs) P h xs (All-contains_itself xs)

filtered_apart : (x : Name) (ys : List Name) → All (λ y. x ≢ y) (filter (λ y. not (same_name x y)) ys)
filtered_apart x [] = All-nil (λ y. x ≢ y)
filtered_apart x (y ∷ ys) =
    by_test (same_name x y) (All (λ z. x ≢ z) (filter (λ z. not (same_name x z)) (y ∷ ys)))
    (λ t. rw t (filtered_apart x ys))
    (λ f. rw f (All-cons (λ z. x ≢ z) y (filter (λ z. not (same_name x z)) ys) (λ e. (let s : same_name x y ≡ true = subst (λ (z : Name). same_name x z ≡ true) e (same_itself x) in cc)) (filtered_apart x ys)))

distinct_first : (xs : List Name) → AllPairs (λ x y. x ≢ y) (first_mentions xs)
distinct_first [] = λ i j d l m. absurd (omega arith)
distinct_first (x ∷ xs) = AllPairs-cons (λ y z. y ≢ z) x (filter (λ y. not (same_name x y)) (first_mentions xs)) (filtered_apart x (first_mentions xs)) (AllPairs-filter (λ y z. y ≢ z) (λ y. not (same_name x y)) (first_mentions xs) (distinct_first xs))

distinct_mapped : (f : Name → Variable) → ((x : Name) → (f x).name ≡ x) → (xs : List Name) → AllPairs (λ x y. x ≢ y) xs → AllPairs (λ v w. v.name ≢ w.name) (map f xs)
distinct_mapped f named xs h = λ i j d l m e.
    let n : j < length xs = subst (λ k. j < k) (length-map xs f) m in
    let o : i < length xs = omega arith in
    let at_i : (get_or (map f xs) i d).name ≡ get_or xs i [] = ap (λ (v : Variable). v.name) (get_or-map f xs i [] d o) ∙ named (get_or xs i []) in
    let at_j : (get_or (map f xs) j d).name ≡ get_or xs j [] = ap (λ (v : Variable). v.name) (get_or-map f xs j [] d n) ∙ named (get_or xs j []) in
    h i j [] l n (sym at_i ∙ (e ∙ at_j))

-- where no mention is past the limit, the variables are few
pub few_unless : (before after : List VariableUse) → length (names_of before) ≤ 32 → ((at : ℕ) → IsPast (before ++ after) at → ⊥) → length (names_of (before ++ after)) ≤ 32
few_unless before [] l n = rw (append-nil before) l
few_unless before (m ∷ after) l n =
    let e : (before ++ m ∷ []) ++ after ≡ before ++ m ∷ after = append_assoc before (m ∷ []) after in
    let onward : length (names_of (before ++ m ∷ [])) ≤ 32 → length (names_of (before ++ m ∷ after)) ≤ 32 = λ k.
    subst (λ (ms : List VariableUse). length (names_of ms) ≤ 32) e (few_unless (before ++ m ∷ []) after k (λ at p. n at (subst (λ (ms : List VariableUse). IsPast ms at) e p))) in
    by_test (list_any (same_name m.name) (names_of before)) (length (names_of (before ++ m ∷ after)) ≤ 32)
    (λ t. onward (rw (names_known before m t) l))
    (λ f. by_size (length (names_of before)) (length (names_of (before ++ m ∷ after)) ≤ 32) l
    (λ less. onward (rw (names_new before m f, length-append (names_of before) (m.name ∷ [])) (omega arith)))
    (λ full. absurd (n m.at (before, m, after, refl, unknown_names before m.name f, full, refl)))) where
      by_size : (n : ℕ) (P : Type 0) → n ≤ 32 → (n < 32 → P) → (n ≡ 32 → P) → P
      by_size n P l less full = grind arith

abbrev pub chain_conditions : List (List Condition) → List plain.Condition
chain_conditions levels = map condition_plain (joined levels)

pub chain_names : (levels : List (List Condition)) → first_mentions (flat_map names (chain_conditions levels)) ≡ names_of (joined (round_of levels))
chain_names levels = ap first_mentions (all_names_same (joined levels) ∙ ap (map name_of) (sym (round_joined levels)))

pub well_made : (version : ℕ) (levels : List (List Condition)) → IsVersion version → IsSound (round_of levels)
    → ((at : ℕ) → IsPast (joined (round_of levels)) at → ⊥) → All IsFlat (chain_conditions levels) → All (λ k. condition_positions k ≤ 256) (chain_conditions levels) → length (chain_conditions levels) < 2 ^ 32
    → IsWellMade (chain_of version (chain_conditions levels))
well_made version levels v s never flat small few =
    let ks = chain_conditions levels in
    let ns = flat_map names ks in
    let f : Name → Variable = λ x. record { name = x; arc = list_any (same_name x) (flat_map arc_names ks) } in
    record {
      known_version = v;
      distinct = distinct_mapped f (λ x. refl) (first_mentions ns) (distinct_first ns);
      mentioned = λ w h. (let o = Contains-map f (first_mentions ns) w h in subst (λ (u : Variable). Contains ns u.name) o.1 (first_from ns o.0 o.2));
      declared = λ x h. Contains-mapped (λ (w : Variable). w.name) (map f (first_mentions ns)) (f x) (Contains-mapped f (first_mentions ns) x (first_to ns x h));
      arcs = λ w h k. (let o = Contains-map f (first_mentions ns) w h in subst (λ (u : Variable). IsTrue u.arc) o.1 (contains_any o.0 (flat_map arc_names ks) (subst (λ (u : Variable). Contains (flat_map arc_names ks) u.name) (sym o.1) k)));
      nodes = λ w h k. (let o = Contains-map f (first_mentions ns) w h in
          subst (λ (u : Variable). u.arc ≡ false) o.1
          (by_test (list_any (same_name o.0) (flat_map arc_names ks)) (list_any (same_name o.0) (flat_map arc_names ks) ≡ false)
          (λ t. absurd (never_both levels o.0 s (subst (λ (u : Variable). Contains (flat_map node_names ks) u.name) (sym o.1) k) (any_contains o.0 (flat_map arc_names ks) t)))
          (λ g. g)));
      flat = flat;
      small = small;
      few_variables = (let n : length (names_of (joined (round_of levels))) ≤ 32 = few_unless [] (joined (round_of levels)) (omega arith) never in
          let m : length (map f (first_mentions ns)) ≡ length (names_of (joined (round_of levels))) = length-map (first_mentions ns) f ∙ ap length (chain_names levels) in
          omega arith);
      few_conditions = few;
    }
