-- What one visit does to a search.
use Rattle.std.proofs.Common.{◌≡◌, ℕ, zero, suc, ◌+◌, ◌<◌, ◌≤◌, ◌/◌, ◌%◌, Bool, true, false, ◌&&◌, eqb, ltb, cond, List, [], ◌∷◌, ◌++◌, ◌⊎◌, ◌↔◌, inl, inr, length, Option, Some, None, IsSome, refl, sym, ◌∙◌, ap, subst, arith, length-append, Contains, slice_index_or}
use Rattle.std.specs.Int.{bit_at}
use Rattle.std.specs.Prelude.{slice_index}
use Rattle.std.specs.Ordering.{is_eq}
use Rattle.std.proofs.lemmas.Bool.Decides.{eqb_tells, Decides-ltb}
use Rattle.std.proofs.lemmas.Cmp.{tied_itself}
use Rattle.std.specs.BTreeMap.{BTreeMap, get}
use Rattle.sd_value.specs.declared.Value.{Value}
use Rattle.sd_value.specs.Order.{value_cmp}
use Rattle.sd_value.specs.OrderLaws.{same_value, value_cmp-total}
use Rattle.automaton.specs.PositionSet.{Has}
use Rattle.walks.specs.declared.search.Task.{Task}
use Rattle.walks.specs.Search.{Visits, Waits, has_test, has_some, failures, spare, Explores, Sorts, At, IsStart}

Seen : Type 0
Seen = BTreeMap Value (List ℕ)

-- ---- tests

and_both : (a b : Bool) → a ≡ true → b ≡ true → (a && b) ≡ true
and_both a b f g = rw (f, g)

and_parts : (a b : Bool) → (a && b) ≡ true → (a ≡ true) × (b ≡ true)
and_parts true b h = (refl, h)
and_parts false b h = cc

small_test : (p : ℕ) → (ltb p 256 ≡ true) ↔ (p < 256)
small_test p = Decides-ltb p 256

bit_test : (x : ℕ) → (eqb x 1 ≡ true) ↔ (x ≡ 1)
bit_test x = elim (eqb_tells x 1) [ inl h ↦ (λ _. h.1, λ _. h.0) | inr h ↦ (λ e. cc, λ e. absurd (h.1 e)) ]

pub has_tested : (s : List ℕ) (p : ℕ) → (has_test s p ≡ true) ↔ Has s p
has_tested s p = (
  λ h.
      let k = and_parts (ltb p 256) (eqb (bit_at (slice_index s (p / 64)) (p % 64)) 1) h in
      record { small = (small_test p).0 k.0; bit = (bit_test _).0 k.1 },
  λ h. and_both _ _ ((small_test p).1 h.small) ((bit_test _).1 h.bit),
)

some_tested : (o : Option (List ℕ)) (p : ℕ) → (has_some o p ≡ true) ↔ ((s : List ℕ) × (o ≡ Some s) × Has s p)
some_tested None p = (λ h. cc, λ (s, e, h). cc)
some_tested (Some s) p = (
  λ h. (s, refl, (has_tested s p).0 h),
  λ (s', e, h). let same : s ≡ s' = cc in (has_tested s p).1 (subst (λ (x : List ℕ). Has x p) (sym same) h),
)

pub value_or_not : (a b : Value) → (a ≡ b) ⊎ (a ≡ b → ⊥)
value_or_not a b = by_test (is_eq (value_cmp a b)) refl
  where
    by_test : (t : Bool) → is_eq (value_cmp a b) ≡ t → (a ≡ b) ⊎ (a ≡ b → ⊥)
    by_test true e = inl (same_value a b e)
    by_test false e = inr (λ h. let k = ap is_eq (tied_itself value_cmp-total a) in let m = subst (λ (x : Value). is_eq (value_cmp a x) ≡ false) (sym h) e in cc)

-- ---- tasks

pub waits_left : (xs ys : List Task) (v : Value) (p : ℕ) → Waits xs v p → Waits (xs ++ ys) v p
waits_left [] ys v p h = absurd h
waits_left (x ∷ xs) ys v p (inl h) = inl h
waits_left (x ∷ xs) ys v p (inr h) = inr (waits_left xs ys v p h)

pub waits_right : (xs ys : List Task) (v : Value) (p : ℕ) → Waits ys v p → Waits (xs ++ ys) v p
waits_right [] ys v p h = h
waits_right (x ∷ xs) ys v p h = inr (waits_right xs ys v p h)

pub waits_parts : (xs ys : List Task) (v : Value) (p : ℕ) → Waits (xs ++ ys) v p → Waits xs v p ⊎ Waits ys v p
waits_parts [] ys v p h = inr h
waits_parts (x ∷ xs) ys v p (inl h) = inl (inl h)
waits_parts (x ∷ xs) ys v p (inr h) = elim (waits_parts xs ys v p h) [ inl k ↦ inl (inr k) | inr k ↦ inr k ]

-- ---- counts

pub fewer : {X : Type 0} (f g : X → Bool) → ((x : X) → f x ≡ true → g x ≡ true) → (xs : List X) → failures g xs ≤ failures f xs
fewer f g k [] = omega arith
fewer f g k (x ∷ xs) = step (f x) (g x) (k x) (fewer f g k xs)
  where
    step : (a b : Bool) → (a ≡ true → b ≡ true) → failures g xs ≤ failures f xs → cond b 0 1 + failures g xs ≤ cond a 0 1 + failures f xs
    step true true h e = omega arith
    step true false h e = absurd (let z = h refl in cc)
    step false true h e = omega arith
    step false false h e = omega arith

pub fewer_by_one : {X : Type 0} (f g : X → Bool) → ((x : X) → f x ≡ true → g x ≡ true) → (y : X) → f y ≡ false → g y ≡ true
    → (xs : List X) (k : ℕ) → k < length xs → slice_index_or xs k y ≡ y → failures g xs < failures f xs
fewer_by_one f g m y off on [] k small e = absurd (omega arith)
fewer_by_one f g m y off on (x ∷ xs) zero small e =
    let p : f x ≡ false = subst (λ z. f z ≡ false) (sym e) off in
    let q : g x ≡ true = subst (λ z. g z ≡ true) (sym e) on in
    let r = fewer f g m xs in
    rw (p, q) (omega arith)
fewer_by_one f g m y off on (x ∷ xs) (suc k) small e = step (f x) (g x) (m x) (fewer_by_one f g m y off on xs k (omega arith) e)
  where
    step : (a b : Bool) → (a ≡ true → b ≡ true) → failures g xs < failures f xs → cond b 0 1 + failures g xs < cond a 0 1 + failures f xs
    step true true h e = omega arith
    step true false h e = absurd (let z = h refl in cc)
    step false true h e = omega arith
    step false false h e = omega arith

-- ---- a visit that brings nothing new

module _ (seen : BTreeMap Value (List ℕ)) (tasks : List Task) (value : Value) (positions fresh all : List ℕ)
    (sorts : Sorts seen value positions fresh all) where
  pub quiet_visit : ((p : ℕ) → Has fresh p → ⊥) → Explores (At value positions) seen seen tasks tasks
  quiet_visit none = record {
    visited = λ v p. (λ h. inl h, λ h. elim h [ inl k ↦ k | inr k ↦ known v p k ]);
    waits = λ v p h. inl h;
    kept = λ v p h. h;
    fresh = λ v p k. inl (known v p k);
    keys = λ v h. h;
    room = λ pairs within. omega arith;
  }
    where
      known : (v : Value) (p : ℕ) → At value positions v p → Visits seen v p
      known v p (e, h) = elim (sorts.cases p h) [ inl k ↦ subst (λ (x : Value). Visits seen x p) (sym e) k | inr f ↦ absurd (none p f) ]

-- ---- a visit that brings something new

module _ (seen seen2 : BTreeMap Value (List ℕ)) (tasks : List Task) (value : Value) (positions fresh all : List ℕ)
    (sorts : Sorts seen value positions fresh all)
    (gets : (v : Value) → get value_cmp seen2 v ≡ cond (is_eq (value_cmp value v)) (Some all) (get value_cmp seen v)) where
  gets_here : get value_cmp seen2 value ≡ Some all
  gets_here = gets value ∙ ap (λ o. cond (is_eq o) (Some all) (get value_cmp seen value)) (tied_itself value_cmp-total value)

  gets_apart : (v : Value) → (v ≡ value → ⊥) → get value_cmp seen2 v ≡ get value_cmp seen v
  gets_apart v n = gets v ∙ by_test (is_eq (value_cmp value v)) refl
    where
      by_test : (b : Bool) → is_eq (value_cmp value v) ≡ b → cond (is_eq (value_cmp value v)) (Some all) (get value_cmp seen v) ≡ get value_cmp seen v
      by_test true e = absurd (n (sym (same_value value v e)))
      by_test false e = rw e refl

  visits_new : (v : Value) (p : ℕ) → Visits seen v p ⊎ At value positions v p → Visits seen2 v p
  visits_new v p h = elim (value_or_not v value) [
    | inl e ↦
        let m : Visits seen value p ⊎ Has positions p = elim h [
          | inl k ↦ inl (subst (λ (x : Value). Visits seen x p) e k)
          | inr k ↦ inr k.1
        ] in
        subst (λ (x : Value). Visits seen2 x p) (sym e) (all, gets_here, (sorts.both p).1 m)
    | inr n ↦ elim h [
      | inl k ↦ (k.0, gets_apart v n ∙ k.1, k.2)
      | inr k ↦ absurd (n k.0)
    ]
  ]

  visits_old : (v : Value) (p : ℕ) → Visits seen2 v p → Visits seen v p ⊎ At value positions v p
  visits_old v p (s, g, h) = elim (value_or_not v value) [
    | inl e ↦
        let same : s ≡ all = let k = ap (get value_cmp seen2) e in let m = gets_here in cc in
        elim ((sorts.both p).0 (subst (λ (x : List ℕ). Has x p) same h)) [
          | inl k ↦ inl (subst (λ (x : Value). Visits seen x p) (sym e) k)
          | inr k ↦ inr (e, k)
        ]
    | inr n ↦ inl (s, sym (gets_apart v n) ∙ g, h)
  ]

  task : List Task
  task = record { value = value; positions = fresh } ∷ []

  pub loud_visit : (p : ℕ) → Has fresh p → Explores (At value positions) seen seen2 tasks (tasks ++ record { value = value; positions = fresh } ∷ [])
  loud_visit p here = record {
    visited = λ v q. (visits_old v q, visits_new v q);
    waits = λ v q h. elim (waits_parts tasks (record { value = value; positions = fresh } ∷ []) v q h) [
      | inl k ↦ inl k
      | inr k ↦ elim k [ inl g ↦ inr (sym g.0, (sorts.only q g.1).0) | inr g ↦ absurd g ]
    ];
    kept = λ v q h. waits_left tasks (record { value = value; positions = fresh } ∷ []) v q h;
    fresh = λ v q (e, h). elim (sorts.cases q h) [
      | inl k ↦ inl (subst (λ (x : Value). Visits seen x q) (sym e) k)
      | inr k ↦ inr (waits_right tasks (record { value = value; positions = fresh } ∷ []) v q (inl (sym e, k)))
    ];
    keys = λ v h. elim (value_or_not v value) [
      | inl e ↦ subst (λ (x : Value). IsSome (get value_cmp seen2 x)) (sym e) (subst (λ (o : Option (List ℕ)). IsSome o) (sym gets_here) refl)
      | inr n ↦ subst (λ (o : Option (List ℕ)). IsSome o) (sym (gets_apart v n)) h
    ];
    room = λ pairs within. room_for pairs within;
  }
    where
      was_not : has_some (get value_cmp seen value) p ≡ false
      was_not = by_test (has_some (get value_cmp seen value) p) refl
        where
          by_test : (b : Bool) → has_some (get value_cmp seen value) p ≡ b → has_some (get value_cmp seen value) p ≡ false
          by_test true e = absurd ((sorts.only p here).1 ((some_tested (get value_cmp seen value) p).0 e))
          by_test false e = e

      room_for : (pairs : List (Value × ℕ)) → ((v : Value) (q : ℕ) → At value positions v q → Contains pairs (v, q))
          → spare pairs seen2 + length (tasks ++ record { value = value; positions = fresh } ∷ []) ≤ spare pairs seen + length tasks
      room_for pairs within =
          let c = within value p (refl, (sorts.only p here).0) in
          let f : Value × ℕ → Bool = λ x. has_some (get value_cmp seen x.0) x.1 in
          let g : Value × ℕ → Bool = λ x. has_some (get value_cmp seen2 x.0) x.1 in
          let less = fewer_by_one f g
          (λ x e. (some_tested (get value_cmp seen2 x.0) x.1).1 (visits_new x.0 x.1 (inl ((some_tested (get value_cmp seen x.0) x.1).0 e))))
          (value, p) was_not ((some_tested (get value_cmp seen2 value) p).1 (visits_new value p (inr (refl, (sorts.only p here).0)))) pairs c.0 c.1 c.2 in
          omega (arith, less, length-append tasks (record { value = value; positions = fresh } ∷ []))

-- ---- the first value

pub starts : (u : Value) (seen : BTreeMap Value (List ℕ)) (empty : List ℕ) → ((p : ℕ) → Has empty p → ⊥)
    → ((v : Value) → get value_cmp seen v ≡ cond (is_eq (value_cmp u v)) (Some empty) None) → IsStart u seen
starts u seen empty none gets = record {
  none = λ v p (s, e, h). by_test v p s h (is_eq (value_cmp u v)) (sym (gets v) ∙ e);
  start = subst (λ (o : Option (List ℕ)). IsSome o) (sym (gets u ∙ ap (λ o. cond (is_eq o) (Some empty) None) (tied_itself value_cmp-total u))) refl;
}
  where
    by_test : (v : Value) (p : ℕ) (s : List ℕ) → Has s p → (b : Bool) → cond b (Some empty) None ≡ Some s → ⊥
    by_test v p s h true e = let same : empty ≡ s = cc in none p (subst (λ (x : List ℕ). Has x p) (sym same) h)
    by_test v p s h false e = cc
