-- Groups that take one item more or less.
use Rattle.std.specs.Prelude.{◌≡◌, ◌≢◌, ◌⊎◌, ◌↔◌, ◌||◌, Bool, true, false, IsTrue, List, [], ◌∷◌, Contains, Result, Ok, Err, OnErr, Option, Some, None, IsSome, IfSome, IfNone}
use Rattle.std.specs.declared.cmp.Ordering.{Ordering}
use Rattle.std.specs.declared.cmp.Ordering.TheVariants.{Less, Equal, Greater}
use Rattle.std.specs.Ordering.{is_eq}
use Rattle.std.specs.BTreeMap.{is_at}
use Rattle.std.specs.BTreeMap.{get, keys}
use Rattle.std.specs.BTreeSet.{BTreeSet, insert_key}
use Rattle.std.specs.Option.{option_copied}
use Rattle.std.specs.Set.{remove_key}
use Rattle.std.specs.List.{list_any}
use Rattle.std.specs.List.Sorted.{IsStrictlySortedBy}
use Rattle.std.specs.Cmp.{IsTotalOrder}
use Rattle.std.specs.FinMap.{IsAntisymmetric}
use Rattle.std.proofs.Common.{refl, sym, ap, ◌∙◌, subst, inl, inr, Bor}
use Rattle.std.proofs.lemmas.Cmp.{tied_itself}
use Rattle.std.proofs.lemmas.Map.Views.{Contains-from_any, btree_map_contains_key_iff}
use Rattle.sd_value.specs.Ascending.{ListsExactly}
use Rattle.sd_value.specs.Members.{Contains-nil, Contains-cons_cases}
use Rattle.sd_graph.specs.Inserted.{inserted-there, inserted-cases, inserted-here}
use Rattle.edit_graphs.proofs.After.{removed_exactly}
use Rattle.sd_value.specs.declared.Datum.TheVariants.{Int, Text, Url, File, Node}
use Rattle.sd_value.specs.declared.Value.{Value}
use Rattle.sd_value.specs.declared.Value.TheVariants.{Data, Page}
use Rattle.sd_value.specs.Order.{bytes_cmp, value_cmp}
use Rattle.sd_value.specs.OrderLaws.{bytes_cmp-total, bytes_cmp-exact, value_cmp-total, value_cmp-exact}
use Rattle.graph_spec.specs.declared.Edge.{Edge}
use Rattle.graph_spec.specs.Orders.{edge_cmp, edge_cmp-total, edge_cmp-exact}
use Rattle.graph_spec.specs.DataGraph.{Name, node}
use Rattle.live_layers.specs.declared.orders.Orders.{Orders}
use Rattle.live_layers.specs.declared.groups.Groups.{Groups}
use Rattle.live_layers.specs.Grouped.{elements, group, node_name, IsGrouped, IsNear, AreOrders, AreNear}

pub nothing_ascends : {X : Type 0} (R : X → X → Ordering) → IsStrictlySortedBy R []
unfolding IsStrictlySortedBy
nothing_ascends R = tt

-- what holds at any rate holds on an `Err`
pub on_err : {T E : Type 0} {P : Type 0} (r : Result T E) → P → OnErr r P
on_err (Ok x) p = tt
on_err (Err e) p = p

pub tie : (o : Ordering) → is_eq o ≡ true → o ≡ Equal
tie Less e = cc
tie Equal e = refl
tie Greater e = cc

pub true_or_false : (b : Bool) → (b ≡ true) ⊎ (b ≡ false)
true_or_false true = inl refl
true_or_false false = inr refl

module _ {X : Type 0} (R : X → X → Ordering) (total : IsTotalOrder R) (exact : IsAntisymmetric R) where
  here_or_not : (x y : X) → (x ≡ y) ⊎ (is_at (R x) y ≡ false)
  here_or_not x y = elim (true_or_false (is_at (R x) y)) [
    | inl t ↦ inl (exact x y (tie (R x y) t))
    | inr f ↦ inr f
  ]

  apart : (x y : X) → is_at (R x) y ≡ false → x ≡ y → ⊥
  apart x y f e =
      let t : is_at (R x) y ≡ true = subst (λ z. is_at (R x) z ≡ true) e (ap is_eq (tied_itself total x)) in cc

  pub same_or_other : (x y : X) → (x ≡ y) ⊎ (x ≢ y)
  same_or_other x y = elim (here_or_not x y) [ inl e ↦ inl e | inr f ↦ inr (apart x y f) ]

-- no items
pub grouped_none : {K E : Type 0} (R : K → K → Ordering) (key : E → K) (groups : Groups K E)
    → ((k : K) → group R groups k ≡ []) → IsGrouped R key [] groups
grouped_none R key groups none k e = (
  λ c. absurd (Contains-nil e (subst (λ es. Contains es e) (none k) c)),
  λ h. absurd (Contains-nil e h.0),
)

module _ {K E : Type 0} (R : K → K → Ordering) (total : IsTotalOrder R) (exact : IsAntisymmetric R)
    (S : E → E → Ordering) (ordered : IsTotalOrder S) (exactly : IsAntisymmetric S) (key : E → K) (one : E)
    (items : List E) where
  -- with one more item
  pub grouped_with : (old new : Groups K E) → IsGrouped R key items old
      → group R new (key one) ≡ insert_key S (group R old (key one)) one
      → ((k : K) → is_at (R (key one)) k ≡ false → group R new k ≡ group R old k)
      → IsGrouped R key (insert_key S items one) new
  grouped_with old new was here others k e = elim (here_or_not R total exact (key one) k) [
    | inl is ↦ subst (λ z. Contains (group R new z) e ↔ (Contains (insert_key S items one) e × (key e ≡ z))) is (
      λ c. elim (inserted-cases S one (group R old (key one)) e (subst (λ es. Contains es e) here c)) [
        | inl same ↦ (
          subst (Contains (insert_key S items one)) same (inserted-here S exactly one items),
          ap key (sym same),
        )
        | inr m ↦ let h = (was (key one) e).0 m in (inserted-there S one items e h.0, h.1)
      ],
      λ h. subst (λ es. Contains es e) (sym here) (elim (inserted-cases S one items e h.0) [
        | inl same ↦ subst (Contains (insert_key S (group R old (key one)) one)) same
            (inserted-here S exactly one (group R old (key one)))
        | inr m ↦ inserted-there S one (group R old (key one)) e ((was (key one) e).1 (m, h.1))
      ]),
    )
    | inr f ↦ subst (λ es. Contains es e ↔ (Contains (insert_key S items one) e × (key e ≡ k))) (sym (others k f)) (
      λ c. let h = (was k e).0 c in (inserted-there S one items e h.0, h.1),
      λ h. elim (inserted-cases S one items e h.0) [
        | inl same ↦ absurd (apart R total exact (key one) k f (ap key same ∙ h.1))
        | inr m ↦ (was k e).1 (m, h.1)
      ],
    )
  ]

  pub near_with : (new : Groups K E) → IsGrouped R key (insert_key S items one) new → IsNear R key one items new
  near_with new now k e = (
    λ m is. (now k e).1 (inserted-there S one items e m, is),
    λ c. (let h = (now k e).0 c in (
      elim (inserted-cases S one items e h.0) [ inl same ↦ inr (sym same) | inr m ↦ inl m ],
      h.1,
    )),
  )

  pub near_itself : (old : Groups K E) → IsGrouped R key items old → IsNear R key one items old
  near_itself old was k e = (
    λ m is. (was k e).1 (m, is),
    λ c. (let h = (was k e).0 c in (inl h.0, h.1)),
  )

  pub near_same : (old new : Groups K E) → IsGrouped R key items old
      → ((k : K) → is_at (R (key one)) k ≡ false → group R new k ≡ group R old k)
      → group R new (key one) ≡ group R old (key one) → IsNear R key one items new
  near_same old new was others here k e = subst (λ es. (Contains items e → key e ≡ k → Contains es e)
      × (Contains es e → (Contains items e ⊎ (e ≡ one)) × (key e ≡ k))) (sym same) (near_itself old was k e)
    where
      same : group R new k ≡ group R old k
      same = elim (here_or_not R total exact (key one) k) [
        | inl is ↦ subst (λ z. group R new z ≡ group R old z) is here
        | inr f ↦ others k f
      ]

  -- without the item
  pub near_without : (old : Groups K E) → IsStrictlySortedBy S items → IsGrouped R key items old
      → IsNear R key one (remove_key (is_at (S one)) items) old
  near_without old up was k e =
      let out = removed_exactly S ordered exactly one items up in (
        λ m is. (was k e).1 ((out.sound e m).0, is),
        λ c. (let h = (was k e).0 c in (
          elim (same_or_other S ordered exactly e one) [
            | inl same ↦ inr same
            | inr n ↦ inl (out.complete e (h.0, n))
          ],
          h.1,
        )),
      )

  pub grouped_without : (old new : Groups K E) → IsNear R key one items old → (Contains items one → ⊥)
      → IsStrictlySortedBy S (group R old (key one))
      → group R new (key one) ≡ remove_key (is_at (S one)) (group R old (key one))
      → ((k : K) → is_at (R (key one)) k ≡ false → group R new k ≡ group R old k)
      → IsGrouped R key items new
  grouped_without old new near none up here others k e = elim (here_or_not R total exact (key one) k) [
    | inl is ↦ subst (λ z. Contains (group R new z) e ↔ (Contains items e × (key e ≡ z))) is
        (let out = removed_exactly S ordered exactly one (group R old (key one)) up in (
          λ c. (let m = out.sound e (subst (λ es. Contains es e) here c) in
              let h = (near (key one) e).1 m.0 in
              (elim h.0 [ inl at ↦ at | inr same ↦ absurd (m.1 same) ], h.1)),
          λ h. subst (λ es. Contains es e) (sym here)
              (out.complete e ((near (key one) e).0 h.0 h.1, λ same. none (subst (Contains items) same h.0))),
        ))
    | inr f ↦ subst (λ es. Contains es e ↔ (Contains items e × (key e ≡ k))) (sym (others k f)) (
      λ c. (let h = (near k e).1 c in (
        elim h.0 [
          | inl at ↦ at
          | inr same ↦ absurd (apart R total exact (key one) k f (ap key (sym same) ∙ h.1))
        ],
        h.1,
      )),
      λ h. (near k e).0 h.0 h.1,
    )
  ]

-- an item that was taken out is not there
pub nothing_left : {E : Type 0} (S : E → E → Ordering) → IsTotalOrder S → IsAntisymmetric S → (one : E) (items : List E)
    → IsStrictlySortedBy S items → Contains (remove_key (is_at (S one)) items) one → ⊥
nothing_left S ordered exactly one items up c = ((removed_exactly S ordered exactly one items up).sound one c).1 refl

-- ---- the three orders of edges

module _ (one : Edge) (edges : List Edge) (orders : Orders) where
  pub orders_near : AreOrders edges orders → AreNear one edges orders
  orders_near are = record {
    by_start = near_itself bytes_cmp bytes_cmp-total bytes_cmp-exact edge_cmp edge_cmp-total edge_cmp-exact
        (λ (e : Edge). e.from) one edges orders.by_start are.by_start;
    by_end = near_itself value_cmp value_cmp-total value_cmp-exact edge_cmp edge_cmp-total edge_cmp-exact
        (λ (e : Edge). e.to) one edges orders.by_end are.by_end;
    by_label = near_itself bytes_cmp bytes_cmp-total bytes_cmp-exact edge_cmp edge_cmp-total edge_cmp-exact
        (λ (e : Edge). e.label) one edges orders.by_label are.by_label;
  }

  pub orders_with_near : AreOrders (insert_key edge_cmp edges one) orders → AreNear one edges orders
  orders_with_near are = record {
    by_start = near_with bytes_cmp bytes_cmp-total bytes_cmp-exact edge_cmp edge_cmp-total edge_cmp-exact
        (λ (e : Edge). e.from) one edges orders.by_start are.by_start;
    by_end = near_with value_cmp value_cmp-total value_cmp-exact edge_cmp edge_cmp-total edge_cmp-exact
        (λ (e : Edge). e.to) one edges orders.by_end are.by_end;
    by_label = near_with bytes_cmp bytes_cmp-total bytes_cmp-exact edge_cmp edge_cmp-total edge_cmp-exact
        (λ (e : Edge). e.label) one edges orders.by_label are.by_label;
  }

  pub orders_near_without : IsStrictlySortedBy edge_cmp edges → AreOrders edges orders
      → AreNear one (remove_key (is_at (edge_cmp one)) edges) orders
  orders_near_without up are = record {
    by_start = near_without bytes_cmp bytes_cmp-total bytes_cmp-exact edge_cmp edge_cmp-total edge_cmp-exact
        (λ (e : Edge). e.from) one edges orders.by_start up are.by_start;
    by_end = near_without value_cmp value_cmp-total value_cmp-exact edge_cmp edge_cmp-total edge_cmp-exact
        (λ (e : Edge). e.to) one edges orders.by_end up are.by_end;
    by_label = near_without bytes_cmp bytes_cmp-total bytes_cmp-exact edge_cmp edge_cmp-total edge_cmp-exact
        (λ (e : Edge). e.label) one edges orders.by_label up are.by_label;
  }

-- ---- whether a list has something

pub any_of : {X : Type 0} (R : X → X → Ordering) → IsTotalOrder R → (k : X) (xs : List X) → Contains xs k
    → list_any (is_at (R k)) xs ≡ true
any_of R total k [] c = absurd (Contains-nil k c)
any_of R total k (x ∷ xs) c = elim (Contains-cons_cases x xs k c) [
  | inl e ↦ here (subst (λ z. is_at (R k) z ≡ true) (sym e) (ap is_eq (tied_itself total k)))
  | inr m ↦ later (is_at (R k) x) (any_of R total k xs m)
]
  where
    here : is_at (R k) x ≡ true → list_any (is_at (R k)) (x ∷ xs) ≡ true
    here t = rw t refl

    later : (b : Bool) → list_any (is_at (R k)) xs ≡ true → (b || list_any (is_at (R k)) xs) ≡ true
    later true h = refl
    later false h = h

pub any_is : {X : Type 0} (R : X → X → Ordering) → IsTotalOrder R → IsAntisymmetric R → (k : X) (xs : List X)
    → IsTrue (list_any (is_at (R k)) xs) ↔ Contains xs k
any_is R total exact k xs =
    (λ t. Contains-from_any (λ z x h. exact z x (tie (R z x) h)) k xs t, λ c. any_of R total k xs c)

-- ---- a group that may be missing

pub found_elements : {E : Type 0} (found : Option (Bor (BTreeSet E))) (items : List E)
    → IfSome found (λ set. set.now.keys ≡ items) → IfNone found (items ≡ [])
    → elements (option_copied found) ≡ items
found_elements (Some set) items some none = some
found_elements None items some none = sym none

module _ {K E : Type 0} (R : K → K → Ordering) (S : E → E → Ordering) (key : E → K) (items : List E)
    (groups : Groups K E) (k : K) where
  -- the list of what belongs to a key
  pub group_lists : (P : E → Type 0) (found : Option (Bor (BTreeSet E))) → IsGrouped R key items groups
      → IsStrictlySortedBy S (group R groups k)
      → IfSome found (λ set. set.now.keys ≡ group R groups k) → IfNone found (group R groups k ≡ [])
      → ((e : E) → Contains items e → key e ≡ k → P e) → ((e : E) → P e → Contains items e × (key e ≡ k))
      → ListsExactly S P (elements (option_copied found))
  group_lists P found grouped up some none to from =
      subst (ListsExactly S P) (sym (found_elements found (group R groups k) some none)) (record {
        ascending = up;
        sound = λ e c. (let h = (grouped k e).0 c in to e h.0 h.1);
        complete = λ e p. (grouped k e).1 (from e p);
      })

  -- what has an item is found among the keys
  pub key_there : IsTotalOrder R → IsAntisymmetric R → (e : E) → Contains (group R groups k) e → Contains (keys groups.of) k
  key_there total exact e c = (btree_map_contains_key_iff total exact groups.of k).0 (some (get R groups.of k) c)
    where
      some : (found : Option (BTreeSet E)) → Contains (elements found) e → IsSome found
      some (Some set) c = refl
      some None c = absurd (Contains-nil e c)

pub name_is : (v : Value) (n : Name) → node_name v ≡ Some n → v ≡ node n
name_is (Data (Node m)) n is = ap node (some_same m n is)
  where
    some_same : (m n : Name) → Some m ≡ Some n → m ≡ n
    some_same m n e = cc
name_is (Data (Int i)) n is = cc
name_is (Data (Text t)) n is = cc
name_is (Data (Url t)) n is = cc
name_is (Data (File t)) n is = cc
name_is (Page p) n is = cc

pub same_node : {m n : Name} → node m ≡ node n → m ≡ n
same_node e = cc
