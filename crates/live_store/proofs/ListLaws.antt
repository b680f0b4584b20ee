-- Ascending lists from which something went and to which something came.
use Rattle.std.specs.Prelude.{◌≡◌, ◌≢◌, ◌⊎◌, ◌↔◌, ◌||◌, ◌≤◌, ◌+◌, ◌-◌, ℕ, Bool, true, false, IsTrue, List, [], ◌∷◌, length, Contains}
use Rattle.std.specs.declared.cmp.Ordering.{Ordering}
use Rattle.std.specs.declared.cmp.Ordering.TheVariants.{Less, Equal, Greater}
use Rattle.std.specs.Ordering.{is_eq}
use Rattle.std.specs.BTreeMap.{is_at}
use Rattle.std.specs.BTreeSet.{insert_key}
use Rattle.std.specs.Set.{remove_key}
use Rattle.std.specs.List.{list_any}
use Rattle.std.specs.List.Sorted.{IsStrictlySortedBy}
use Rattle.std.specs.Cmp.{IsTotalOrder}
use Rattle.std.specs.FinMap.{IsAntisymmetric}
use Rattle.std.proofs.Common.{arith, refl, sym, ap, ◌∙◌, subst, inl, inr}
use Rattle.std.proofs.lemmas.Cmp.{tied_itself}
use Rattle.std.proofs.lemmas.Map.Made.{length-remove_key}
use Rattle.std.proofs.lemmas.Map.Views.{Contains-from_any}
use Rattle.sd_value.specs.Ascending.{ListsExactly}
use Rattle.sd_value.specs.AscendingLaws.{head_below, tail_ascends, not_below_itself, listed_as}
use Rattle.sd_value.specs.Members.{Contains-nil, Contains-cons_cases, Contains-here, Contains-there}
use Rattle.graph_spec.specs.Steps.{IsCountOf}
use Rattle.sd_graph.specs.Inserted.{length-inserted}
use Rattle.edit_graphs.proofs.After.{inserted_exactly, removed_exactly}
use Rattle.live_store.specs.Shift.{Shift, IsShifted, minus, plus}

pub tie : (o : Ordering) → is_eq o ≡ true → o ≡ Equal
tie Less e = cc
tie Equal e = refl
tie Greater e = cc

true_or_false : (b : Bool) → (b ≡ true) ⊎ (b ≡ false)
true_or_false true = inl refl
true_or_false false = inr refl

module _ {X : Type 0} (R : X → X → Ordering) (total : IsTotalOrder R) (exact : IsAntisymmetric R) where
  -- ---- membership is decided

  pub same_at : (k x : X) → is_at (R k) x ≡ true → k ≡ x
  same_at k x t = exact k x (tie (R k x) t)

  pub any_of : (k : X) (xs : List X) → Contains xs k → list_any (is_at (R k)) xs ≡ true
  any_of k [] c = absurd (Contains-nil k c)
  any_of k (x ∷ xs) c = elim (Contains-cons_cases x xs k c) [
    | inl e ↦ here (subst (λ z. is_at (R k) z ≡ true) (sym e) (ap is_eq (tied_itself total k)))
    | inr m ↦ later (is_at (R k) x) (any_of k xs m)
  ]
    where
      here : is_at (R k) x ≡ true → list_any (is_at (R k)) (x ∷ xs) ≡ true
      here t = rw t refl

      later : (b : Bool) → list_any (is_at (R k)) xs ≡ true → (b || list_any (is_at (R k)) xs) ≡ true
      later true h = refl
      later false h = h

  pub any_is : (k : X) (xs : List X) → IsTrue (list_any (is_at (R k)) xs) ↔ Contains xs k
  any_is k xs = (λ t. Contains-from_any same_at k xs t, λ c. any_of k xs c)

  pub none_of : (k : X) (xs : List X) → (Contains xs k → ⊥) → list_any (is_at (R k)) xs ≡ false
  none_of k xs n = elim (true_or_false (list_any (is_at (R k)) xs)) [
    | inl t ↦ absurd (n (Contains-from_any same_at k xs t))
    | inr f ↦ f
  ]

  pub in_or_not : (xs : List X) (x : X) → Contains xs x ⊎ (Contains xs x → ⊥)
  in_or_not xs x = elim (true_or_false (list_any (is_at (R x)) xs)) [
    | inl t ↦ inl (Contains-from_any same_at x xs t)
    | inr f ↦ inr (λ c. let t = any_of x xs c in cc)
  ]

  pub same_or_other : (x y : X) → (x ≡ y) ⊎ (x ≡ y → ⊥)
  same_or_other x y = elim (true_or_false (is_at (R x) y)) [
    | inl t ↦ inl (same_at x y t)
    | inr f ↦ inr (λ e. let t : is_at (R x) y ≡ true = subst (λ z. is_at (R x) z ≡ true) e (ap is_eq (tied_itself total x)) in cc)
  ]

  -- ---- taking out and putting in

  pub minus_exactly : (P : X → Type 0) (xs ds : List X) → ListsExactly R P xs
      → ListsExactly R (λ z. P z × (Contains ds z → ⊥)) (minus R xs ds)
  minus_exactly P xs [] h = listed_as h (λ z p. (p, Contains-nil z)) (λ z k. k.0)
  minus_exactly P xs (d ∷ ds) h =
      let once : ListsExactly R (λ z. P z × (z ≢ d)) (remove_key (is_at (R d)) xs) =
      listed_as (removed_exactly R total exact d xs h.ascending) (λ z k. (h.sound z k.0, k.1))
      (λ z k. (h.complete z k.0, k.1)) in
      listed_as (minus_exactly (λ z. P z × (z ≢ d)) (remove_key (is_at (R d)) xs) ds once)
      (λ z k. (
        k.0.0,
        λ c. elim (Contains-cons_cases d ds z c) [ inl e ↦ k.0.1 (sym e) | inr m ↦ k.1 m ],
      ))
      (λ z k. (
        (k.0, λ e. k.1 (subst (Contains (d ∷ ds)) (sym e) (Contains-here d ds))),
        λ m. k.1 (Contains-there d ds z m),
      ))

  pub plus_exactly : (P : X → Type 0) (xs cs : List X) → ListsExactly R P xs
      → ListsExactly R (λ z. P z ⊎ Contains cs z) (plus R xs cs)
  plus_exactly P xs [] h = listed_as h (λ z p. inl p) (λ z k. elim k [ inl p ↦ p | inr c ↦ absurd (Contains-nil z c) ])
  plus_exactly P xs (d ∷ ds) h =
      let once : ListsExactly R (λ z. P z ⊎ (z ≡ d)) (insert_key R xs d) =
      listed_as (inserted_exactly R total exact d xs h.ascending)
      (λ z k. elim k [ inl c ↦ inl (h.sound z c) | inr e ↦ inr e ])
      (λ z k. elim k [ inl p ↦ inl (h.complete z p) | inr e ↦ inr e ]) in
      listed_as (plus_exactly (λ z. P z ⊎ (z ≡ d)) (insert_key R xs d) ds once)
      (λ z k. elim k [
        | inl (inl p) ↦ inl p
        | inl (inr e) ↦ inr (subst (Contains (d ∷ ds)) (sym e) (Contains-here d ds))
        | inr m ↦ inr (Contains-there d ds z m)
      ])
      (λ z k. elim k [
        | inl p ↦ inl (inl p)
        | inr c ↦ elim (Contains-cons_cases d ds z c) [ inl e ↦ inl (inr (sym e)) | inr m ↦ inr m ]
      ])

  head_out : (d : X) (ds : List X) → IsStrictlySortedBy R (d ∷ ds) → (z : X) → Contains ds z → z ≢ d
  head_out d ds up z m e = not_below_itself total d (subst (λ w. R d w ≡ Less) e (head_below total d ds up z m))

  pub length-minus : (xs ds : List X) → IsStrictlySortedBy R xs → IsStrictlySortedBy R ds
      → ((z : X) → Contains ds z → Contains xs z) → length (minus R xs ds) + length ds ≡ length xs
  length-minus xs [] up down within = omega arith
  length-minus xs (d ∷ ds) up down within =
      let out = removed_exactly R total exact d xs up in
      let one = length-remove_key (is_at (R d)) xs (any_of d xs (within d (Contains-here d ds))) in
      let rest = length-minus (remove_key (is_at (R d)) xs) ds out.ascending (tail_ascends total d ds down)
      (λ z m. out.complete z (within z (Contains-there d ds z m), head_out d ds down z m)) in
      omega arith

  pub length-plus : (xs cs : List X) → IsStrictlySortedBy R xs → IsStrictlySortedBy R cs
      → ((z : X) → Contains cs z → Contains xs z → ⊥) → length (plus R xs cs) ≡ length xs + length cs
  length-plus xs [] up down apart = omega arith
  length-plus xs (d ∷ ds) up down apart =
      let more = inserted_exactly R total exact d xs up in
      let one = length-inserted R d xs (none_of d xs (apart d (Contains-here d ds))) in
      let rest = length-plus (insert_key R xs d) ds more.ascending (tail_ascends total d ds down)
      (λ z m c. elim (more.sound z c) [
        | inl old ↦ apart z (Contains-there d ds z m) old
        | inr e ↦ head_out d ds down z m e
      ]) in
      omega arith

  -- ---- what moves

  module _ {P Q D C : X → Type 0} (moves : Shift P Q D C) where
    pub shift_lists : (bs ds cs xs : List X) → ListsExactly R P bs → ListsExactly R D ds
        → ListsExactly R C cs → ListsExactly R (IsShifted bs ds cs) xs → ListsExactly R Q xs
    shift_lists bs ds cs xs b d c h = listed_as h
        (λ x k. elim k [
          | inl p ↦ (moves x).stays (b.sound x p.0) (λ g. p.1 (d.complete x g))
          | inr m ↦ (moves x).comes (c.sound x m)
        ])
        (λ x q. elim ((moves x).all q) [
          | inl p ↦ inl (b.complete x p, λ g. (moves x).went (d.sound x g) q)
          | inr m ↦ inr (c.complete x m)
        ])

    -- exactly the list of what is there
    pub shifted_list : (bs ds cs : List X) → ListsExactly R P bs → ListsExactly R D ds
        → ListsExactly R C cs → ListsExactly R Q (plus R (minus R bs ds) cs)
    shifted_list bs ds cs b d c =
        shift_lists bs ds cs (plus R (minus R bs ds) cs) b d c
        (plus_exactly (λ z. Contains bs z × (Contains ds z → ⊥)) (minus R bs ds) cs
        (minus_exactly (Contains bs) bs ds
        (record { ascending = b.ascending; sound = λ x m. m; complete = λ x m. m })))

    pub length-shifted : (bs ds cs : List X) → ListsExactly R P bs → ListsExactly R D ds
        → ListsExactly R C cs → length (plus R (minus R bs ds) cs) + length ds ≡ length bs + length cs
    length-shifted bs ds cs b d c =
        let out = minus_exactly P bs ds b in
        let less = length-minus bs ds b.ascending d.ascending (λ z m. b.complete z ((moves z).was (d.sound z m))) in
        let more = length-plus (minus R bs ds) cs out.ascending c.ascending
        (λ z m k. (moves z).is_new (c.sound z m) (out.sound z k).0) in
        omega arith

    pub shift_counts : (b d c : ℕ) → IsCountOf R P b → IsCountOf R D d → IsCountOf R C c
        → (d ≤ b) × IsCountOf R Q (b - d + c)
    shift_counts b d c (bs, bl, bn) (ds, dl, dn) (cs, cl, cn) =
        let less = length-minus bs ds bl.ascending dl.ascending (λ z m. bl.complete z ((moves z).was (dl.sound z m))) in
        let whole = length-shifted bs ds cs bl dl cl in
        (omega arith, (plus R (minus R bs ds) cs, shifted_list bs ds cs bl dl cl, omega arith))

  -- as many as there are of something else, at most
  pub fits : {Y : Type 0} (S : Y → Y → Ordering) → IsTotalOrder S → (f : Y → X) (ys : List Y) (xs : List X)
      → IsStrictlySortedBy S ys → IsStrictlySortedBy R xs → ((y : Y) → Contains ys y → Contains xs (f y))
      → ((y z : Y) → Contains ys y → Contains ys z → f y ≡ f z → y ≡ z) → length ys ≤ length xs
  fits S ordered f [] xs down up within one = omega arith
  fits S ordered f (y ∷ ys) xs down up within one =
      let out = removed_exactly R total exact (f y) xs up in
      let less = length-remove_key (is_at (R (f y))) xs (any_of (f y) xs (within y (Contains-here y ys))) in
      let rest = fits S ordered f ys (remove_key (is_at (R (f y))) xs) (tail_ascends ordered y ys down) out.ascending
      (λ z m. out.complete (f z) (
        within z (Contains-there y ys z m),
        λ e. not_below_itself ordered y (subst (λ w. S y w ≡ Less)
            (one z y (Contains-there y ys z m) (Contains-here y ys) e) (head_below ordered y ys down z m)),
      ))
      (λ v w a b e. one v w (Contains-there y ys v a) (Contains-there y ys w b) e) in
      omega arith

-- nothing is there of which there are none
pub none_counted : {X : Type 0} {R : X → X → Ordering} {P : X → Type 0} (n : ℕ) → IsCountOf R P n → n ≡ 0
    → (x : X) → P x → ⊥
none_counted {X} n (xs, lists, is) none x p = nothing xs (is ∙ none) (lists.complete x p)
  where
    nothing : (ys : List X) → length ys ≡ 0 → Contains ys x → ⊥
    nothing [] z m = Contains-nil x m
    nothing (y ∷ ys) z m = absurd (omega arith)

-- and something is there, where there are some
pub some_counted : {X : Type 0} {R : X → X → Ordering} {P : X → Type 0} (n : ℕ) → IsCountOf R P n → (n ≡ 0 → ⊥)
    → (x : X) × P x
some_counted {X} {R} {P} n (xs, lists, is) some = first xs (λ z. some (sym is ∙ z)) lists.sound
  where
    first : (ys : List X) → (length ys ≡ 0 → ⊥) → ((x : X) → Contains ys x → P x) → (x : X) × P x
    first [] n sound = absurd (n refl)
    first (y ∷ ys) n sound = (y, sound y (Contains-here y ys))
