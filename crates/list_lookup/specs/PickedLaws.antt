-- What is picked from an ascending list ascends, and has exactly the asked-for values.
use Rattle.std.specs.Prelude.{◌≡◌, ◌⊎◌, ◌<◌, ◌≤◌, ◌+◌, ◌-◌, ℕ, Bool, true, false, cond, List, [], ◌∷◌, ◌++◌, length}
use Rattle.std.specs.Prelude.{map, take, drop, Contains}
use Rattle.std.specs.declared.cmp.Ordering.{Ordering}
use Rattle.std.specs.declared.cmp.Ordering.TheVariants.{Less, Equal, Greater}
use Rattle.std.specs.Ordering.{is_eq, ordering_index}
use Rattle.std.specs.List.{filter, All, AllWithin}
use Rattle.std.specs.List.Sorted.{IsStrictlySortedBy}
use Rattle.std.proofs.Common.{arith, refl, sym, ap, ◌∙◌, subst, inl, inr, get_or}
use Rattle.std.proofs.lemmas.List.Elements.{All-from_recursion, recursion_from_All, All-contains, All-head, All-tail}
use Rattle.std.proofs.lemmas.List.Elements.{All-cons, All-nil, filter-append, Contains-push_cases}
use Rattle.std.proofs.lemmas.Grind.{take_at_read}
use Rattle.std.proofs.lemmas.Bool.{cases_lt}
use Rattle.std.proofs.lemmas.List.{get_or_default, get_or-take, get_or-drop, take-append-drop, take_rest}
use Rattle.std.proofs.Common.{length-take, length-drop, append-nil}
use Rattle.sd_value.specs.Members.{Contains-nil, Contains-cons_cases, Contains-here, Contains-there, Contains-map, Contains-mapped}
use Rattle.sd_value.specs.Ascending.{ListsExactly}
use Rattle.list_lookup.specs.Picked.{in_place, picked, IsPlaced, passes, EndsAt, EndsBy, HasOne}

module _ {X : Type 0} (test : X → Bool) where
  pub filter-sound : (xs : List X) (z : X) → Contains (filter test xs) z → Contains xs z
      × (test z ≡ true)
  filter-sound [] z h = absurd (Contains-nil z h)
  filter-sound (x ∷ xs) z h = by (filter-sound xs z) (test x) refl h
    where
      by : (Contains (filter test xs) z → Contains xs z × (test z ≡ true)) → (b : Bool) → test x ≡ b
          → Contains (cond b (x ∷ filter test xs) (filter test xs)) z → Contains (x ∷ xs) z
          × (test z ≡ true)
      by rest true is h =
          elim (Contains-cons_cases x (filter test xs) z h) [
            | inl e ↦ (subst (Contains (x ∷ xs)) e (Contains-here x xs), ap test (sym e) ∙ is)
            | inr later ↦ let found = rest later in (Contains-there x xs z found.0, found.1)
          ]
      by rest false is h = let found = rest h in (Contains-there x xs z found.0, found.1)

  pub filter-complete : (xs : List X) (z : X) → Contains xs z → test z ≡ true
      → Contains (filter test xs) z
  filter-complete [] z h passes = absurd (Contains-nil z h)
  filter-complete (x ∷ xs) z h passes = by (λ later. filter-complete xs z later passes) (test x)
      refl (Contains-cons_cases x xs z h)
    where
      by : (Contains xs z → Contains (filter test xs) z) → (b : Bool) → test x ≡ b → (x ≡ z)
          ⊎ Contains xs z → Contains (cond b (x ∷ filter test xs) (filter test xs)) z
      by rest true is (inl e) = subst (Contains (x ∷ filter test xs)) e
          (Contains-here x (filter test xs))
      by rest true is (inr later) = Contains-there x (filter test xs) z (rest later)
      by rest false is (inl e) = let t : test x ≡ test z = ap test e in cc
      by rest false is (inr later) = rest later

  -- a list that passes only from one place to another is filtered to that part
  filter-all : (xs : List X) → All (λ x. test x ≡ true) xs → filter test xs ≡ xs
  filter-all [] h = refl
  filter-all (x ∷ xs) h =
      ap (λ b. cond b (x ∷ filter test xs) (filter test xs)) (All-head (λ y. test y ≡ true) x xs h)
      ∙ ap (λ ys. x ∷ ys) (filter-all xs (All-tail (λ y. test y ≡ true) x xs h))

  filter-none : (xs : List X) → All (λ x. test x ≡ false) xs → filter test xs ≡ []
  filter-none [] h = refl
  filter-none (x ∷ xs) h =
      ap (λ b. cond b (x ∷ filter test xs) (filter test xs)) (All-head (λ y. test y ≡ false) x xs h)
      ∙ filter-none xs (All-tail (λ y. test y ≡ false) x xs h)

  pub filter-window : (xs : List X) (lo hi : ℕ) → lo ≤ hi → hi ≤ length xs
      → AllWithin (λ x. test x ≡ false) xs 0 lo → AllWithin (λ x. test x ≡ true) xs lo hi
      → AllWithin (λ x. test x ≡ false) xs hi (length xs)
      → filter test xs ≡ take (hi - lo) (drop lo xs)
  filter-window xs lo hi up fits below within above =
      let n = hi - lo in
      let front : All (λ x. test x ≡ false) (take lo xs) = λ k d l.
      let m : k < lo = omega (arith, length-take {A = X}) in
      rw (get_or-take lo xs k d m) (below k d (omega arith) m) in
      let middle : All (λ x. test x ≡ true) (take (hi - lo) (drop lo xs)) = λ k d l.
      let m : k < hi - lo = omega (arith, length-take {A = X}) in
      rw (get_or-take (hi - lo) (drop lo xs) k d m, get_or-drop lo xs k d)
      (within (lo + k) d (omega arith) (omega arith)) in
      let back : All (λ x. test x ≡ false) (drop (hi - lo) (drop lo xs)) = λ k d l.
      rw (get_or-drop (hi - lo) (drop lo xs) k d, get_or-drop lo xs (hi - lo + k) d)
      (above (lo + (hi - lo + k)) d (omega arith) (omega (arith, length-drop {A = X}))) in
      sym (ap (filter test) (take-append-drop lo xs))
      ∙ filter-append test (take lo xs) (drop lo xs)
      ∙ ap (λ ys. ys ++ filter test (drop lo xs)) (filter-none (take lo xs) front)
      ∙ sym (ap (filter test) (take-append-drop (hi - lo) (drop lo xs)))
      ∙ filter-append test (take (hi - lo) (drop lo xs)) (drop (hi - lo) (drop lo xs))
      ∙ (λ i. filter-all (take (hi - lo) (drop lo xs)) middle i ++ filter-none
      (drop (hi - lo) (drop lo xs)) back i)
      ∙ append-nil (take (hi - lo) (drop lo xs))

All-from_contained : {X : Type 0} {P : X → Type 0} (xs : List X) → ((x : X) → Contains xs x → P x)
    → All P xs
All-from_contained {X} {P} [] h = All-nil P
All-from_contained {X} {P} (x ∷ xs) h = All-cons P x xs (h x (Contains-here x xs))
    (All-from_contained xs (λ y at. h y (Contains-there x xs y at)))

-- an order that is a tie
pub in_place-is : (o : Ordering) → is_eq o ≡ true → o ≡ Equal
in_place-is Less h = cc
in_place-is Equal h = refl
in_place-is Greater h = cc

module _ {X Y : Type 0} (place : X → Ordering) (gives : X → Y) (P : Y → Type 0) (xs : List X) where
  pub picked-sound : ((x : X) → Contains xs x → place x ≡ Equal → P (gives x)) → (y : Y)
      → Contains (picked place gives xs) y → P y
  picked-sound sound y h =
      let (z, given, at) = Contains-map gives (in_place place xs) y h in
      let found = filter-sound (λ v. is_eq (place v)) xs z at in
      subst P given (sound z found.0 (in_place-is (place z) found.1))

  pub picked-complete : ((y : Y) → P y → (x : X) × Contains xs x × (place x ≡ Equal)
      × (gives x ≡ y)) → (y : Y) → P y → Contains (picked place gives xs) y
  picked-complete complete y p =
      let (x, at, placed, given) = complete y p in
      subst (Contains (picked place gives xs)) given
      (Contains-mapped gives (in_place place xs) x
      (filter-complete (λ v. is_eq (place v)) xs x at (ap is_eq placed)))

module _ {X Y : Type 0} (R : X → X → Ordering) (S : Y → Y → Ordering) (place : X → Ordering)
    (gives : X → Y) where
  -- what is given rises with the items of the place
  pub record Rises : Type 0 where
    pub at : (x y : X) → place x ≡ Equal → place y ≡ Equal → R x y ≡ Less → S (gives x) (gives y) ≡
        Less

  pub picked-ascends : Rises → (xs : List X) → IsStrictlySortedBy R xs → IsStrictlySortedBy S
      (picked place gives xs)
  unfolding IsStrictlySortedBy
  picked-ascends rises [] up = tt
  picked-ascends rises (x ∷ xs) up = by (picked-ascends rises xs up.1) (is_eq (place x)) refl
    where
      by : IsStrictlySortedBy S (picked place gives xs) → (b : Bool) → is_eq (place x) ≡ b
          → IsStrictlySortedBy S (map gives (cond b (x ∷ in_place place xs) (in_place place xs)))
      by rest true is = (
        recursion_from_All (λ y. S (gives x) y ≡ Less) (picked place gives xs)
            (All-from_contained (picked place gives xs) (λ y h.
            let (z, given, at) = Contains-map gives (in_place place xs) y h in
            let found = filter-sound (λ v. is_eq (place v)) xs z at in
            let below = All-contains (λ v. R x v ≡ Less) xs z
            (All-from_recursion (λ v. R x v ≡ Less) xs up.0) found.0 in
            subst (λ v. S (gives x) v ≡ Less) given
            (rises.at x z (in_place-is (place x) is) (in_place-is (place z) found.1) below))),
        rest,
      )
      by rest false is = rest

  -- what a query picks is the list of what is asked for
  pub picked-lists : (P : Y → Type 0) (xs : List X) → Rises → IsStrictlySortedBy R xs
      → ((x : X) → Contains xs x → place x ≡ Equal → P (gives x))
      → ((y : Y) → P y → (x : X) × Contains xs x × (place x ≡ Equal) × (gives x ≡ y))
      → ListsExactly S P (picked place gives xs)
  picked-lists P xs rises up sound complete = record {
    ascending = picked-ascends rises xs up;
    sound = picked-sound place gives P xs sound;
    complete = picked-complete place gives P xs complete;
  }

-- what passes is a first part of an ordered list
pub passes-down : (through : Bool) (a b : Ordering) → ordering_index a ≤ ordering_index b
    → passes through b ≡ true → passes through a ≡ true
passes-down true Less b up h = refl
passes-down true Equal b up h = refl
passes-down true Greater Less up h = absurd (omega arith)
passes-down true Greater Equal up h = absurd (omega arith)
passes-down true Greater Greater up h = cc
passes-down false Less b up h = refl
passes-down false Equal Less up h = absurd (omega arith)
passes-down false Equal Equal up h = cc
passes-down false Equal Greater up h = cc
passes-down false Greater Less up h = absurd (omega arith)
passes-down false Greater Equal up h = cc
passes-down false Greater Greater up h = cc

not_true : (b : Bool) → (b ≡ true → ⊥) → b ≡ false
not_true true h = absurd (h refl)
not_true false h = refl

module _ {X : Type 0} (place : X → Ordering) (xs : List X) (placed : IsPlaced place xs)
    (through : Bool) where
  pub all_before : (i : ℕ) (x : X) → i < length xs → x ≡ get_or xs i x → passes through (place x) ≡
      true → AllWithin (λ y. passes through (place y) ≡ true) xs 0 (i + 1)
  all_before i x l is h k d low high =
      let here : get_or xs i d ≡ x = get_or_default xs i d x l ∙ sym is in
      passes-down through (place (get_or xs k d)) (place (get_or xs i d))
      (placed k i d (omega arith) l) (ap (λ y. passes through (place y)) here ∙ h)

  pub none_after : (i : ℕ) (x : X) → i < length xs → x ≡ get_or xs i x → passes through (place x) ≡
      false → AllWithin (λ y. passes through (place y) ≡ false) xs i (length xs)
  none_after i x l is h k d low high =
      let here : get_or xs i d ≡ x = get_or_default xs i d x l ∙ sym is in
      not_true (passes through (place (get_or xs k d))) (λ yes.
      let down = passes-down through (place (get_or xs i d)) (place (get_or xs k d))
      (placed i k d low high) yes in
      let other : passes through (place (get_or xs i d)) ≡ false =
      ap (λ y. passes through (place y)) here ∙ h in
      cc)

-- from an item on that does not pass, none does
pub ends_by : {X : Type 0} (place : X → Ordering) (xs : List X) → IsPlaced place xs
    → (i : ℕ) (x : X) → i < length xs → x ≡ get_or xs i x → passes true (place x) ≡ false
    → EndsBy (λ y. passes true (place y)) xs i
ends_by place xs placed i x l is h = record {
  fits = omega arith;
  after = none_after place xs placed true i x l is h;
}

from_le : (o : Ordering) → passes true o ≡ true → passes false o ≡ false → is_eq o ≡ true
from_le Less h k = cc
from_le Equal h k = refl
from_le Greater h k = cc

below_not : (o : Ordering) → passes false o ≡ true → is_eq o ≡ false
below_not Less h = refl
below_not Equal h = cc
below_not Greater h = cc

above_not : (o : Ordering) → passes true o ≡ false → is_eq o ≡ false
above_not Less h = cc
above_not Equal h = cc
above_not Greater h = refl

below_through : (o : Ordering) → passes false o ≡ true → passes true o ≡ true
below_through Less h = refl
below_through Equal h = cc
below_through Greater h = cc

not_crossed : {X : Type 0} (place : X → Ordering) (xs : List X) (lo hi : ℕ) → hi < lo
    → EndsAt (λ x. passes false (place x)) xs lo → EndsAt (λ x. passes true (place x)) xs hi → ⊥
not_crossed place [] lo hi l start end = let f = start.fits in absurd (omega arith)
not_crossed place (x ∷ xs) lo hi l start end =
    let below = below_through (place (get_or (x ∷ xs) hi x)) (start.before hi x (omega arith) l) in
    let above = end.after hi x (omega arith) (omega (arith, start.fits)) in
    cc

-- the part between the two ends is what lies in the place
pub part-is : {X : Type 0} (place : X → Ordering) (xs : List X) (lo hi : ℕ)
    → EndsAt (λ x. passes false (place x)) xs lo → EndsAt (λ x. passes true (place x)) xs hi
    → (lo ≤ hi) × (take (hi - lo) (drop lo xs) ≡ in_place place xs)
part-is {X} place xs lo hi start end =
    (up, sym (filter-window (λ x. is_eq (place x)) xs lo hi up end.fits below within above))
  where
    up : lo ≤ hi
    up = elim (cases_lt hi lo) [
      | inl l ↦ absurd (not_crossed place xs lo hi l start end)
      | inr l ↦ l
    ]

    below : AllWithin (λ x. is_eq (place x) ≡ false) xs 0 lo
    below k d l m = below_not (place (get_or xs k d)) (start.before k d l m)

    within : AllWithin (λ x. is_eq (place x) ≡ true) xs lo hi
    within k d l m = from_le (place (get_or xs k d)) (end.before k d (omega arith) m)
        (start.after k d l (omega (arith, end.fits)))

    above : AllWithin (λ x. is_eq (place x) ≡ false) xs hi (length xs)
    above k d l m = above_not (place (get_or xs k d)) (end.after k d l m)

-- where the first items of a rest end is where the rest ends, and so the list
pub end-of_rest : {X : Type 0} (place : X → Ordering) (xs : List X) (lo near n : ℕ)
    → EndsAt (λ x. passes false (place x)) xs lo
    → EndsBy (λ x. passes true (place x)) (drop lo xs) near
    → EndsAt (λ x. passes true (place x)) (take near (drop lo xs)) n
    → EndsAt (λ x. passes true (place x)) xs (lo + n)
end-of_rest {X} place xs lo near n start by end = record {
  fits = omega (arith, start.fits, by.fits, end.fits, length-take {A = X}, length-drop {A = X});
  before = before;
  after = after;
}
  where
    through : X → Bool
    through x = passes true (place x)

    at : (k : ℕ) (d : X) → lo ≤ k → get_or (drop lo xs) (k - lo) d ≡ get_or xs k d
    at k d l = let i : lo + (k - lo) ≡ k = omega arith in get_or-drop lo xs (k - lo) d
        ∙ ap (λ j. get_or xs j d) i

    before : AllWithin (λ x. through x ≡ true) xs 0 (lo + n)
    before k d l m = elim (cases_lt k lo) [
      | inl below ↦ below_through (place (get_or xs k d)) (start.before k d l below)
      | inr up ↦
          let short : k - lo < near = omega (arith, end.fits, length-take {A = X}) in
          ap through (sym (at k d up) ∙ sym (get_or-take near (drop lo xs) (k - lo) d short))
          ∙ end.before (k - lo) d (omega arith) (omega arith)
    ]

    after : AllWithin (λ x. through x ≡ false) xs (lo + n) (length xs)
    after k d l m = elim (cases_lt (k - lo) near) [
      | inl short ↦
          let up : lo ≤ k = omega arith in
          let first : k - lo < length (take near (drop lo xs)) = omega
          (arith, by.fits, length-take {A = X}, length-drop {A = X}) in
          ap through (sym (at k d up) ∙ sym (get_or-take near (drop lo xs) (k - lo) d short))
          ∙ end.after (k - lo) d (omega arith) first
      | inr far ↦
          let up : lo ≤ k = omega arith in
          let within : k - lo < length (drop lo xs) = omega (arith, length-drop {A = X}) in
          ap through (sym (at k d up)) ∙ by.after (k - lo) d far within
    ]

-- the first items of a rest that end there are what lies in the place
pub part-of_rest : {X : Type 0} (place : X → Ordering) (xs : List X) (lo near n : ℕ)
    → EndsAt (λ x. passes false (place x)) xs lo
    → EndsBy (λ x. passes true (place x)) (take (length xs - lo) (drop lo xs)) near
    → EndsAt (λ x. passes true (place x)) (take near (take (length xs - lo) (drop lo xs))) n
    → take n (take (length xs - lo) (drop lo xs)) ≡ in_place place xs
part-of_rest {X} place xs lo near n start by end =
    let rest : take (length xs - lo) (drop lo xs) ≡ drop lo xs = take_rest xs lo in
    let by′ = subst (λ ys. EndsBy (λ x. passes true (place x)) ys near) rest by in
    let end′ = subst (λ ys. EndsAt (λ x. passes true (place x)) (take near ys) n) rest end in
    let n_is : lo + n - lo ≡ n = omega arith in
    ap (take n) rest ∙ sym (ap (λ k. take k (drop lo xs)) n_is)
    ∙ (part-is place xs lo (lo + n) start (end-of_rest place xs lo near n start by′ end′)).1

-- the part has no item exactly where none lies in the place
pub none_in_place : {X : Type 0} (place : X → Ordering) (xs : List X) → length (in_place place xs) ≡
    0 → HasOne place xs → ⊥
none_in_place place xs none (x, at, is) =
    let found = filter-complete (λ v. is_eq (place v)) xs x at (ap is_eq is) in
    absurd (omega (arith, found.1))

-- an item lies in its place where their number isn't 0
pub one_in_place : {X : Type 0} (place : X → Ordering) (xs : List X)
    → (length (in_place place xs) ≡ 0 → ⊥) → HasOne place xs
one_in_place {X} place xs some = by (in_place place xs)
    (λ z h. filter-sound (λ v. is_eq (place v)) xs z h) some
  where
    by : (ys : List X) → ((z : X) → Contains ys z → Contains xs z × (is_eq (place z) ≡ true))
        → (length ys ≡ 0 → ⊥) → HasOne place xs
    by [] sound some = absurd (some refl)
    by (y ∷ ys) sound some = let found = sound y (Contains-here y ys) in
        (y, found.0, in_place-is (place y) found.1)

-- nothing so far, and one item more
pub none_more : {X : Type 0} (place : X → Ordering) (xs : List X) (i : ℕ) (x : X) → i < length xs
    → x ≡ get_or xs i x → (HasOne place (take i xs) → ⊥) → is_eq (place x) ≡ false
    → HasOne place (take (i + 1) xs) → ⊥
none_more {X} place xs i x l is before other (y, here, placed) =
    let more : take (i + 1) xs ≡ take i xs ++ x ∷ [] = rw ((take_at_read xs i x l).1, ← is) in
    elim (Contains-push_cases (take i xs) x y (rw more at here)) [
      | inl old ↦ before (y, old, placed)
      | inr e ↦ let tied : is_eq (place x) ≡ true = ap is_eq (ap place e ∙ placed) in cc
    ]
