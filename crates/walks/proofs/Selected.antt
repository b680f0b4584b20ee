-- The values of a search at which a walk may end.
use Rattle.std.proofs.Common.{◌≡◌, ℕ, zero, suc, ◌<◌, Bool, true, false, cond, List, [], ◌∷◌, ◌++◌, ◌⊎◌, ◌↔◌, inl, inr, length, IsSome, IsTrue, Option, Some, None, refl, sym, ◌∙◌, ap, subst, arith, append_assoc, append-nil, Contains}
use Rattle.std.specs.List.{AllByRecursion}
use Rattle.std.specs.List.Sorted.{IsStrictlySortedBy}
use Rattle.std.specs.Map.{lookup, keys_of}
use Rattle.std.specs.Ordering.{is_eq}
use Rattle.std.specs.declared.cmp.Ordering.{Ordering}
use Rattle.std.specs.declared.cmp.Ordering.TheVariants.{Less}
use Rattle.std.specs.BTreeMap.{BTreeMap, get, IsOrdered}
use Rattle.std.proofs.lemmas.List.Elements.{Contains-push, Contains-append_left, Contains-push_cases}
use Rattle.std.proofs.lemmas.Map.Entries.{btree_map_get_place}
use Rattle.std.proofs.lemmas.Option.{slice_get-get_or}
use Rattle.sd_value.specs.declared.Value.{Value}
use Rattle.sd_value.specs.Order.{value_cmp}
use Rattle.sd_value.specs.OrderLaws.{same_value, value_cmp-total}
use Rattle.sd_value.specs.Ascending.{ListsExactly}
use Rattle.sd_value.specs.AscendingLaws.{listed_as}
use Rattle.graph_spec.specs.DataGraph.{DataGraph}
use Rattle.automaton.specs.Table.{Table}
use Rattle.walks.specs.declared.direction.Direction.{Direction}
use Rattle.walks.specs.declared.direction.Direction.TheVariants.{Onward, Backward}
use Rattle.walks.specs.Joins.{Joins}
use Rattle.walks.specs.Directions.{JoinsBy, origin}
use Rattle.walks.specs.Search.{Searches, IsEnd, HasEnd, HasEndIn}
use Rattle.walks.proofs.Searched.{search_ends}
use Rattle.walks.proofs.Joined.{Meets, meets_joins}

-- ---- one element less

all_without : {X : Type 0} (P : X → Type 0) (xs : List X) (k : X) (ys : List X) → AllByRecursion P (xs ++ k ∷ ys) → AllByRecursion P (xs ++ ys)
all_without P [] k ys h = h.1
all_without P (x ∷ xs) k ys h = (h.0, all_without P xs k ys h.1)

pub sorted_without : (c : Value → Value → Ordering) (xs : List Value) (k : Value) (ys : List Value) → IsStrictlySortedBy c (xs ++ k ∷ ys) → IsStrictlySortedBy c (xs ++ ys)
unfolding IsStrictlySortedBy
sorted_without c [] k ys h = h.1
sorted_without c (x ∷ xs) k ys h = (all_without (λ y. c x y ≡ Less) xs k ys h.0, sorted_without c xs k ys h.1)

pub contains_cases : {X : Type 0} (x : X) (xs : List X) (y : X) → Contains (x ∷ xs) y → (x ≡ y) ⊎ Contains xs y
contains_cases x xs y (zero, small, e) = inl e
contains_cases x xs y (suc k, small, e) = inr (k, omega arith, e)

pub contains_tail : {X : Type 0} (x : X) (xs : List X) (y : X) → Contains xs y → Contains (x ∷ xs) y
contains_tail x xs y (k, small, e) = (suc k, omega arith, e)

-- ---- a turn

-- some values are taken, and some entries are left
pub record Selects (t : Table) (d : Direction) (u : Value) (entries : List (Value × List ℕ)) (taken : List Value) (rest : List (Value × List ℕ)) : Type 0 where
  pub ascending : IsStrictlySortedBy value_cmp (taken ++ keys_of rest)
  pub exact : (v : Value) → (Contains taken v ⊎ HasEndIn t d u rest v) ↔ HasEndIn t d u entries v

module _ (t : Table) (d : Direction) (u : Value) (entries : List (Value × List ℕ)) (taken : List Value) (old rest : List (Value × List ℕ)) (value : Value) (positions : List ℕ)
    (popped : old ≡ (value, positions) ∷ rest) (selects : Selects t d u entries taken old) where
  now : Selects t d u entries taken ((value, positions) ∷ rest)
  now = subst (λ (x : List (Value × List ℕ)). Selects t d u entries taken x) popped selects

  later : (v : Value) → HasEndIn t d u rest v → HasEndIn t d u entries v
  later v (s, c, e) = (now.exact v).0 (inr (s, contains_tail (value, positions) rest (v, s) c, e))

  pub takes_one : IsEnd t d u value positions → Selects t d u entries (taken ++ value ∷ []) rest
  takes_one end = record {
    ascending = subst (IsStrictlySortedBy value_cmp) (sym (append_assoc taken (value ∷ []) (keys_of rest))) now.ascending;
    exact = λ v. (
      λ h. elim h [
        | inl c ↦ elim (Contains-push_cases taken value v c) [
          | inl k ↦ (now.exact v).0 (inl k)
          | inr e ↦ subst (λ (x : Value). HasEndIn t d u entries x) e ((now.exact value).0 (inr (positions, (zero, omega arith, refl), end)))
        ]
        | inr k ↦ later v k
      ],
      λ h. elim ((now.exact v).1 h) [
        | inl c ↦ inl (Contains-append_left taken (value ∷ []) v c)
        | inr k ↦ elim (contains_cases (value, positions) rest (v, k.0) k.1) [
          | inl e ↦ inl (subst (λ (x : Value). Contains (taken ++ value ∷ []) x) (ap (λ (x : Value × List ℕ). x.0) e) (Contains-push taken value))
          | inr c ↦ inr (k.0, c, k.2)
        ]
      ],
    );
  }

  pub skips_one : (IsEnd t d u value positions → ⊥) → Selects t d u entries taken rest
  skips_one never = record {
    ascending = sorted_without value_cmp taken value (keys_of rest) now.ascending;
    exact = λ v. (
      λ h. elim h [ inl c ↦ (now.exact v).0 (inl c) | inr k ↦ later v k ],
      λ h. elim ((now.exact v).1 h) [
        | inl c ↦ inl c
        | inr k ↦ elim (contains_cases (value, positions) rest (v, k.0) k.1) [
          | inl e ↦ absurd (never (subst (λ (x : Value × List ℕ). IsEnd t d u x.0 x.1) (sym e) k.2))
          | inr c ↦ inr (k.0, c, k.2)
        ]
      ],
    );
  }

-- ---- entries and the map

found_here : (x : Value × List ℕ) (xs : List (Value × List ℕ)) (v : Value) (s : List ℕ) (b : Bool) → is_eq (value_cmp v x.0) ≡ b
    → cond b (Some x.1) (lookup (λ k. is_eq (value_cmp v k)) xs) ≡ Some s
    → (lookup (λ k. is_eq (value_cmp v k)) xs ≡ Some s → Contains xs (v, s)) → Contains (x ∷ xs) (v, s)
found_here x xs v s true f e later =
    let same : v ≡ x.0 = same_value v x.0 f in
    let is : x.1 ≡ s = cc in
    (zero, omega arith, (λ i. (sym same i, is i)))
found_here x xs v s false f e later = contains_tail x xs (v, s) (later e)

found : (entries : List (Value × List ℕ)) (v : Value) (s : List ℕ) → lookup (λ k. is_eq (value_cmp v k)) entries ≡ Some s → Contains entries (v, s)
found [] v s e = cc
found (x ∷ xs) v s e = found_here x xs v s (is_eq (value_cmp v x.0)) refl e (λ f. found xs v s f)

pub selects_all : (t : Table) (d : Direction) (u : Value) (seen : BTreeMap Value (List ℕ)) (taken : List Value) → IsOrdered value_cmp seen
    → Selects t d u seen.entries taken [] → ListsExactly value_cmp (HasEnd t d u seen) taken
selects_all t d u seen taken ordered selects = record {
  ascending = subst (IsStrictlySortedBy value_cmp) (append-nil taken) selects.ascending;
  sound = λ v c. let (s, k, e) = (selects.exact v).0 (inl c) in (s, btree_map_get_place value_cmp-total seen k.0 v s ordered (slice_get-get_or seen.entries k.0 (v, s) k.1 ∙ ap Some k.2), e);
  complete = λ v (s, g, e). elim ((selects.exact v).1 (s, found seen.entries v s g, e)) [ inl c ↦ c | inr k ↦ absurd (let m = k.1.1 in omega (arith, m)) ];
}

pub no_entries : (es : List (Value × List ℕ)) → (0 < length es → ⊥) → es ≡ []
no_entries [] h = refl
no_entries (x ∷ xs) h = absurd (h (omega arith))

-- ---- the end of a search and walks

value_of : (o : Option (List ℕ)) → IsSome o → (s : List ℕ) × (o ≡ Some s)
value_of None h = cc
value_of (Some s) h = (s, refl)

pub ends_are_joined : (G : DataGraph) (t : Table) (d : Direction) (u : Value) (seen : BTreeMap Value (List ℕ)) → Searches G t d u seen []
    → (v : Value) → HasEnd t d u seen v ↔ JoinsBy G t d u v
ends_are_joined G t d u seen searches v = (to, from)
  where
    to : HasEnd t d u seen v → JoinsBy G t d u v
    to (s, e, inl (p, h, last)) = (meets_joins G t d u v).0 (inl (p, searches.sound v p (s, e, h), last))
    to (s, e, inr k) = (meets_joins G t d u v).0 (inr k)

    by_cases : Meets G t d u v → HasEnd t d u seen v
    by_cases (inl (q, h, last)) = let k = (search_ends G t d u seen searches v q).1 h in (k.0, k.1, inl (q, k.2, last))
    by_cases (inr (e, same)) = let k = value_of (get value_cmp seen u) searches.start in (k.0, ap (get value_cmp seen) (sym same) ∙ k.1, inr (e, same))

    from : JoinsBy G t d u v → HasEnd t d u seen v
    from j = by_cases ((meets_joins G t d u v).1 j)

pub ends_listed : (G : DataGraph) (t : Table) (d : Direction) (u : Value) (seen : BTreeMap Value (List ℕ)) (values : List Value) → Searches G t d u seen []
    → ListsExactly value_cmp (HasEnd t d u seen) values → ListsExactly value_cmp (JoinsBy G t d u) values
ends_listed G t d u seen values searches h =
    let same = ends_are_joined G t d u seen searches in
    listed_as h (λ v. (same v).0) (λ v. (same v).1)

origins_are_joined : (G : DataGraph) (t : Table) (d : Direction) (u v : Value) → JoinsBy G t d (origin d u v) (origin d v u) ↔ Joins G t u v
origins_are_joined G t Onward u v = (λ j. j, λ j. j)
origins_are_joined G t Backward u v = (λ j. j, λ j. j)

pub other_is_joined : (G : DataGraph) (t : Table) (d : Direction) (u v : Value) (seen : BTreeMap Value (List ℕ)) (b : Bool) → Searches G t d (origin d u v) seen []
    → (IsTrue b ↔ HasEnd t d (origin d u v) seen (origin d v u)) → IsTrue b ↔ Joins G t u v
other_is_joined G t d u v seen b searches h =
    let k = ends_are_joined G t d (origin d u v) seen searches (origin d v u) in
    let j = origins_are_joined G t d u v in
    (λ e. j.0 (k.0 (h.0 e)), λ e. h.1 (k.1 (j.1 e)))
