-- Counts after one thing was put in or taken out.
use Rattle.std.specs.Prelude.{◌≡◌, ◌≢◌, ◌⊎◌, ◌↔◌, ◌<◌, ◌≤◌, ◌+◌, ◌-◌, ℕ, zero, suc, Bool, true, false, IsTrue, List, length, Contains}
use Rattle.std.specs.declared.cmp.Ordering.{Ordering}
use Rattle.std.specs.BTreeMap.{is_at}
use Rattle.std.specs.BTreeSet.{insert_key}
use Rattle.std.specs.Set.{remove_key}
use Rattle.std.specs.List.Sorted.{IsStrictlySortedBy}
use Rattle.std.specs.Cmp.{IsTotalOrder}
use Rattle.std.specs.FinMap.{IsAntisymmetric}
use Rattle.std.proofs.Common.{arith, refl, sym, ap, ◌∙◌, subst, inl, inr}
use Rattle.std.proofs.Common.{nat_lt}
use Rattle.std.proofs.lemmas.Bool.{ltb-true, lt-ltb}
use Rattle.std.proofs.lemmas.Map.Made.{length-remove_key}
use Rattle.sd_value.specs.Ascending.{ListsExactly}
use Rattle.sd_value.specs.AscendingLaws.{listed_as, one_list}
use Rattle.graph_spec.specs.Steps.{IsCountOf}
use Rattle.sd_graph.specs.Inserted.{length-inserted}
use Rattle.edit_graphs.proofs.After.{inserted_exactly, removed_exactly}
use Rattle.sd_value.specs.Order.{bytes_cmp}
use Rattle.sd_value.specs.OrderLaws.{bytes_cmp-total, bytes_cmp-exact}
use Rattle.graph_spec.specs.declared.Edge.{Edge}
use Rattle.graph_spec.specs.DataGraph.{DataGraph, Name, node}
use Rattle.live_store.specs.Counts.{one_if, HasOneMore, HasNodes}
use Rattle.live_store.proofs.ListLaws.{same_or_other, none_of, any_of, none_counted, some_counted}

pub zero_or_more : (n : ℕ) → (n ≡ 0) ⊎ (0 < n)
zero_or_more zero = inl refl
zero_or_more (suc n) = inr (omega arith)

-- there is something exactly where there are more than none
pub some_there : {X : Type 0} {R : X → X → Ordering} {P : X → Type 0} (n : ℕ) → IsCountOf R P n
    → IsTrue (nat_lt 0 n) ↔ ((x : X) × P x)
some_there {X} {R} {P} n count = (
  λ sure. some_counted n count (λ z. absurd (omega (arith, ltb-true 0 n sure, z))),
  λ (x, p). elim (zero_or_more n) [
    | inl z ↦ absurd (none_counted n count z x p)
    | inr more ↦ lt-ltb 0 n more
  ],
)

module _ {X : Type 0} (R : X → X → Ordering) (total : IsTotalOrder R) (exact : IsAntisymmetric R) where
  pub itself : (xs : List X) → IsStrictlySortedBy R xs → IsCountOf R (Contains xs) (length xs)
  itself xs up = (xs, record { ascending = up; sound = λ x m. m; complete = λ x m. m }, refl)

  -- a count of what a list has is its length
  pub length_is : (P : X → Type 0) (xs : List X) (n : ℕ) → ListsExactly R P xs → IsCountOf R P n → n ≡ length xs
  length_is P xs n lists (ys, others, is) = sym is ∙ ap length (one_list total P ys xs others lists)

  module _ {Q Q' : X → Type 0} (k : X) (n : ℕ) (count : IsCountOf R Q n)
      (others : (x : X) → x ≢ k → Q x ↔ Q' x) where
    first : (was : Bool) → IsTrue was ↔ Q k → IsTrue was → 1 ≤ n
    first was there sure = elim (zero_or_more n) [
      | inl z ↦ absurd (none_counted n count z k (there.0 sure))
      | inr more ↦ omega (arith, more)
    ]

    pub moved : (was is : Bool) → IsTrue was ↔ Q k → IsTrue is ↔ Q' k
        → (IsTrue was → 1 ≤ n) × IsCountOf R Q' (n - one_if was + one_if is)
    moved was is there now = (first was there, by was is there now)
      where
        to : (Q k → Q' k) → (x : X) → Q x → Q' x
        to here x q = elim (same_or_other R total exact x k) [
          | inl e ↦ subst Q' (sym e) (here (subst Q e q))
          | inr m ↦ (others x m).0 q
        ]

        from : (Q' k → Q k) → (x : X) → Q' x → Q x
        from here x q = elim (same_or_other R total exact x k) [
          | inl e ↦ subst Q (sym e) (here (subst Q' e q))
          | inr m ↦ (others x m).1 q
        ]

        by : (was is : Bool) → IsTrue was ↔ Q k → IsTrue is ↔ Q' k → IsCountOf R Q' (n - one_if was + one_if is)
        by true true there now =
            let most = first true there refl in
            let (xs, lists, long) = count in (
              xs,
              listed_as lists (to (λ q. now.0 refl)) (from (λ q. there.0 refl)),
              omega (arith, long, most),
            )
        by false false there now =
            let (xs, lists, long) = count in (
              xs,
              listed_as lists (to (λ q. (let t = there.1 q in cc))) (from (λ q. (let t = now.1 q in cc))),
              omega (arith, long),
            )
        by false true there now =
            let (xs, lists, long) = count in
            let more = inserted_exactly R total exact k xs lists.ascending in
            let one = length-inserted R k xs (none_of R total exact k xs
            (λ c. (let t = there.1 (lists.sound k c) in cc))) in (
              insert_key R xs k,
              listed_as more
                  (λ x h. elim h [
                    | inl m ↦ to (λ q. now.0 refl) x (lists.sound x m)
                    | inr e ↦ subst Q' (sym e) (now.0 refl)
                  ])
                  (λ x q. elim (same_or_other R total exact x k) [
                    | inl e ↦ inr e
                    | inr m ↦ inl (lists.complete x ((others x m).1 q))
                  ]),
              omega (arith, long, one),
            )
        by true false there now =
            let most = first true there refl in
            let (xs, lists, long) = count in
            let less = removed_exactly R total exact k xs lists.ascending in
            let one = length-remove_key (is_at (R k)) xs (any_of R total exact k xs (lists.complete k (there.0 refl))) in (
              remove_key (is_at (R k)) xs,
              listed_as less
                  (λ x h. (others x h.1).0 (lists.sound x h.0))
                  (λ x q. elim (same_or_other R total exact x k) [
                    | inl e ↦ (let t = now.1 (subst Q' e q) in cc)
                    | inr m ↦ (lists.complete x ((others x m).1 q), m)
                  ]),
              omega (arith, long, one, most),
            )

  -- the same of the lengths of lists
  pub length_moved : (xs ys : List X) (k : X) (was is : Bool) → IsStrictlySortedBy R xs → IsStrictlySortedBy R ys
      → IsTrue was ↔ Contains xs k → IsTrue is ↔ Contains ys k
      → ((x : X) → x ≢ k → Contains xs x ↔ Contains ys x)
      → length xs - one_if was + one_if is ≡ length ys
  length_moved xs ys k was is up down there now others =
      length_is (Contains ys) ys (length xs - one_if was + one_if is)
      (record { ascending = down; sound = λ x m. m; complete = λ x m. m })
      (moved {Q = Contains xs} {Q' = Contains ys} k (length xs) (itself xs up) others was is there now).1

-- with the node of an edge's end, of the nodes with that of its start
pub end_moved : (L : DataGraph) (x : Edge) (name : Name) → x.to ≡ node name → (n : ℕ)
    → IsCountOf bytes_cmp (HasOneMore L x.from) n → (was : Bool) → IsTrue was ↔ (Contains L.nodes name ⊎ (name ≡ x.from))
    → (IsTrue was → 1 ≤ n) × IsCountOf bytes_cmp (HasNodes L x) (n - one_if was + one_if true)
end_moved L x name is n count was there =
    moved bytes_cmp bytes_cmp-total bytes_cmp-exact {Q = HasOneMore L x.from} {Q' = HasNodes L x} name n count
    (λ m other. (
      λ h. elim h [ inl old ↦ inl old | inr e ↦ inr (inl e) ],
      λ h. elim h [
        | inl old ↦ inl old
        | inr k ↦ elim k [ inl e ↦ inr e | inr to ↦ absurd (other (same_node (sym to ∙ is))) ]
      ],
    ))
    was true there (λ t. inr (inr is), λ h. refl)
  where
    same_node : {m n : Name} → node m ≡ node n → m ≡ n
    same_node e = cc
