-- The first of all rows, of which others are left out on the way.
use Rattle.std.proofs.Common.{◌≡◌, ℕ, zero, suc, List, [], ◌∷◌, ◌++◌, Option, Some, None, take, inl, inr, refl, sym, ap, ◌∙◌, subst, arith}
use Rattle.std.specs.Prelude.{Contains, map, reverse, Bool, true, false, if◌then◌else◌}
use Rattle.std.specs.declared.cmp.Ordering.{Ordering}
use Rattle.std.specs.declared.cmp.Ordering.TheVariants.{Less, Equal, Greater}
use Rattle.std.specs.Ordering.{match_ordering}
use Rattle.std.specs.BTreeSet.{insert_key}
use Rattle.std.specs.List.{AllByRecursion}
use Rattle.std.specs.List.Sorted.{IsStrictlySortedBy}
use Rattle.std.proofs.lemmas.List.{take-take, take-map}
use Rattle.std.proofs.lemmas.List.Elements.{Contains-append_left, Contains-push_cases, Contains-push}
use Rattle.std.proofs.lemmas.List.Elements.{All-from_recursion, recursion_from_All, All-take}
use Rattle.sd_graph.specs.Inserted.{inserted-there, inserted-cases, inserted-here, inserted-ascends}
use Rattle.sd_value.specs.declared.Value.{Value}
use Rattle.sd_value.specs.Ascending.{ListsExactly}
use Rattle.sd_value.specs.AscendingLaws.{lists_nothing}
use Rattle.sd_value.proofs.Gathering.{nothing_in}
use Rattle.sd_value.specs.Order.{value_cmp}
use Rattle.sd_value.specs.Members.{Contains-map, Contains-mapped}
use Rattle.tmpl.specs.declared.Expr.{Expr}
use Rattle.tmpl.specs.declared.Order.{Order}
use Rattle.tmpl.specs.declared.SortKey.{SortKey}
use Rattle.page_spec.specs.declared.Keyed.{Keyed}
use Rattle.page_spec.specs.Site.{Site, Env, InRange, Arranged, row_cmp, limited, values_of_rows}
use Rattle.page_spec.specs.KeyLaws.{row_cmp_total, row_same}
use Rattle.render.specs.Rows.{HasRow, first_rows, HasFirstOf}
use Rattle.render.proofs.Keys.{in_rows}

-- ---- a row is put into ascending ones

inserted_exact : (rows seen : List Keyed) (x : Keyed) → ListsExactly row_cmp (Contains seen) rows → ListsExactly row_cmp (Contains (seen ++ x ∷ [])) (insert_key row_cmp rows x)
inserted_exact rows seen x l = record {
  ascending = inserted-ascends row_cmp row_cmp_total x rows l.ascending;
  sound = λ z h. elim (inserted-cases row_cmp x rows z h) [ inl e ↦ subst (Contains (seen ++ x ∷ [])) e (Contains-push seen x) | inr old ↦ Contains-append_left seen (x ∷ []) z (l.sound z old) ];
  complete = λ z h. elim (Contains-push_cases seen x z h) [ inl old ↦ inserted-there row_cmp x rows z (l.complete z old) | inr e ↦ subst (Contains (insert_key row_cmp rows x)) e (inserted-here row_cmp row_same x rows) ];
}

-- ---- the first of them are those of the first ones

take_after : (m : ℕ) (x : Keyed) (xs : List Keyed) → take m (x ∷ take m xs) ≡ take m (x ∷ xs)
take_after zero x xs = refl
take_after (suc m) x xs = ap (λ (l : List Keyed). x ∷ l) (take-take m (suc m) xs (omega arith))

-- whether a row is put into all or into the first, the first are the same
firsts_alone : (n : ℕ) (rows : List Keyed) (k : Keyed) → take n (insert_key row_cmp (take n rows) k) ≡ take n (insert_key row_cmp rows k)
firsts_alone zero rows k = refl
firsts_alone (suc n) [] k = refl
firsts_alone (suc n) (x ∷ xs) k = by (firsts_alone n xs k) (row_cmp k x)
  where
    by : take n (insert_key row_cmp (take n xs) k) ≡ take n (insert_key row_cmp xs k) → (r : Ordering) → take (suc n) (match_ordering r (k ∷ x ∷ take n xs) (x ∷ take n xs) (x ∷ insert_key row_cmp (take n xs) k)) ≡ take (suc n) (match_ordering r (k ∷ x ∷ xs) (x ∷ xs) (x ∷ insert_key row_cmp xs k))
    by rest Less = ap (λ (l : List Keyed). k ∷ l) (take_after n x xs)
    by rest Equal = ap (λ (l : List Keyed). x ∷ l) (take-take n n xs (omega arith))
    by rest Greater = ap (λ (l : List Keyed). x ∷ l) rest

firsts_inserted : (limit : Option ℕ) (all some : List Keyed) (k : Keyed) → first_rows limit all ≡ first_rows limit some → first_rows limit (insert_key row_cmp all k) ≡ first_rows limit (insert_key row_cmp some k)
firsts_inserted None all some k e = ap (λ (l : List Keyed). insert_key row_cmp l k) e
firsts_inserted (Some n) all some k e =
    sym (firsts_alone n all k) ∙ ap (λ (l : List Keyed). take n (insert_key row_cmp l k)) e ∙ firsts_alone n some k

take_ascends : (n : ℕ) (rows : List Keyed) → IsStrictlySortedBy row_cmp rows → IsStrictlySortedBy row_cmp (take n rows)
unfolding IsStrictlySortedBy
take_ascends zero rows up = tt
take_ascends (suc n) [] up = tt
take_ascends (suc n) (x ∷ xs) up =
    (recursion_from_All (λ y. row_cmp x y ≡ Less) (take n xs) (All-take (λ y. row_cmp x y ≡ Less) n xs (All-from_recursion (λ y. row_cmp x y ≡ Less) xs up.0)), take_ascends n xs up.1)

firsts_exact : (limit : Option ℕ) (rows : List Keyed) → IsStrictlySortedBy row_cmp rows → ListsExactly row_cmp (Contains (first_rows limit rows)) (first_rows limit rows)
firsts_exact None rows up = record { ascending = up; sound = λ x h. h; complete = λ x h. h }
firsts_exact (Some n) rows up = record { ascending = take_ascends n rows up; sound = λ x h. h; complete = λ x h. h }

firsts_again : (limit : Option ℕ) (rows : List Keyed) → first_rows limit (first_rows limit rows) ≡ first_rows limit rows
firsts_again None rows = refl
firsts_again (Some n) rows = take-take n n rows (omega arith)

-- ---- rows are seen, and some of them are left

pub firsts_none : (limit : Option ℕ) → HasFirstOf limit [] []
firsts_none limit =
    let none = lists_nothing row_cmp (Contains []) (λ x h. nothing_in x h) in
    ([], [], none, none, refl)

pub firsts_more : (limit : Option ℕ) (seen rows : List Keyed) (x : Keyed) → HasFirstOf limit seen rows → HasFirstOf limit (seen ++ x ∷ []) (rows ++ x ∷ [])
firsts_more limit seen rows x (all, sorted, of_seen, of_rows, same) =
    (insert_key row_cmp all x, insert_key row_cmp sorted x, inserted_exact all seen x of_seen, inserted_exact sorted rows x of_rows, firsts_inserted limit all sorted x same)

pub firsts_kept : (limit : Option ℕ) (seen rows left : List Keyed) → HasFirstOf limit seen rows → ((sorted : List Keyed) → ListsExactly row_cmp (Contains rows) sorted → left ≡ first_rows limit sorted) → HasFirstOf limit seen left
firsts_kept limit seen rows left (all, sorted, of_seen, of_rows, same) keeps =
    (all, first_rows limit sorted, of_seen, subst (λ (l : List Keyed). ListsExactly row_cmp (Contains l) (first_rows limit sorted)) (sym (keeps sorted of_rows)) (firsts_exact limit sorted of_rows.ascending), same ∙ sym (firsts_again limit sorted))

pub firsts_end : (limit : Option ℕ) (seen rows left : List Keyed) → HasFirstOf limit seen rows → ((sorted : List Keyed) → ListsExactly row_cmp (Contains rows) sorted → left ≡ first_rows limit sorted) → (all : List Keyed) × ListsExactly row_cmp (Contains seen) all × (left ≡ first_rows limit all)
firsts_end limit seen rows left (all, sorted, of_seen, of_rows, same) keeps =
    (all, of_seen, keeps sorted of_rows ∙ sym same)

-- ---- the values of an order

abbrev value_of_row : Keyed → Value
value_of_row r = r.value

-- of an order that isn't turned round the first rows give the first values
pub first_values : (o : Order) (rows : List Keyed) → limited o.limit (values_of_rows o (first_rows (if o.descend then None else o.limit) rows)) ≡ limited o.limit (values_of_rows o rows)
first_values o rows = by o.descend o.limit
  where
    turned : (d : Bool) → List Keyed → List Value
    turned d rs = if d then reverse (map value_of_row rs) else map value_of_row rs

    by : (d : Bool) (l : Option ℕ) → limited l (turned d (first_rows (if d then None else l) rows)) ≡ limited l (turned d rows)
    by true l = refl
    by false None = refl
    by false (Some n) =
        take-map value_of_row n (take n rows) ∙ ap (map value_of_row) (take-take n n rows (omega arith)) ∙ sym (take-map value_of_row n rows)

-- ---- values by no key

-- a value without a place
abbrev plain : Value → Keyed
plain v = record { places = []; value = v }

plain_above : (v : Value) (vs : List Value) → AllByRecursion (λ w. value_cmp v w ≡ Less) vs → AllByRecursion (λ r. row_cmp (plain v) r ≡ Less) (map plain vs)
plain_above v [] h = tt
plain_above v (w ∷ ws) h = (h.0, plain_above v ws h.1)

plain_ascends : (vs : List Value) → IsStrictlySortedBy value_cmp vs → IsStrictlySortedBy row_cmp (map plain vs)
unfolding IsStrictlySortedBy
plain_ascends [] up = tt
plain_ascends (v ∷ vs) up = (plain_above v vs up.0, plain_ascends vs up.1)

plain_values : (vs : List Value) → map value_of_row (map plain vs) ≡ vs
plain_values [] = refl
plain_values (v ∷ vs) = ap (λ l. v ∷ l) (plain_values vs)

pub by_no_key : (s : Site) (e : Env) (x : Expr) (o : Order) (vs out : List Value) → o.keys ≡ [] → ListsExactly value_cmp (InRange s e x) vs → out ≡ limited o.limit (if o.descend then reverse vs else vs) → Arranged s e x o out
by_no_key s e x o vs out none exact is = (
  map plain vs,
  record {
    ascending = plain_ascends vs exact.ascending;
    sound = λ r h. let q = Contains-map plain vs r h in rw none (subst (λ (y : Keyed). InRange s e x y.value × (y.places ≡ [])) q.1 (exact.sound q.0 q.2, refl));
    complete = λ r h. let has : r.places ≡ [] = (rw none at h.1) in let same : plain r.value ≡ r = λ i. record { places = sym has i; value = r.value } in subst (Contains (map plain vs)) same (Contains-mapped plain vs r.value (exact.complete r.value h.0));
  },
  is ∙ ap (λ (l : List Value). limited o.limit (if o.descend then reverse l else l)) (sym (plain_values vs)),
)

-- ---- values by keys

pub by_keys : (s : Site) (e : Env) (x : Expr) (o : Order) (keys : List SortKey) (vs out arranged : List Value) (rows all : List Keyed) → keys ≡ o.keys → ListsExactly value_cmp (InRange s e x) vs → ListsExactly row_cmp (λ r. (v : Value) × Contains vs v × HasRow s keys v r) all → rows ≡ first_rows (if o.descend then None else o.limit) all → arranged ≡ map value_of_row rows → out ≡ limited o.limit (if o.descend then reverse arranged else arranged) → Arranged s e x o out
by_keys s e x o keys vs out arranged rows all same exact of_all first is end = (
  all,
  in_rows s e x o.keys vs all exact (subst (λ (ks : List SortKey). ListsExactly row_cmp (λ r. (v : Value) × Contains vs v × HasRow s ks v r) all) same of_all),
  end ∙ ap (λ (l : List Value). limited o.limit (if o.descend then reverse l else l)) (is ∙ ap (map value_of_row) first) ∙ first_values o all,
)
