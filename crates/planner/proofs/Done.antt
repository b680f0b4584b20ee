-- When a plan ends, and how its steps add up.
use Rattle.std.proofs.Common.{◌≡◌, ℕ, zero, suc, ◌+◌, ◌<◌, ◌≤◌, List, [], ◌∷◌, ◌++◌, length, arith, refl, ap, sym, ◌∙◌, inl, inr, subst, get_or}
use Rattle.std.specs.Prelude.{◌⊎◌, Bool, true, false, Option, None, Some, slice_get, slice_set}
use Rattle.std.proofs.lemmas.Option.{slice_get_within}
use Rattle.store.specs.declared.Sizes.{Sizes}
use Rattle.plan_spec.specs.declared.Shape.{Shape}
use Rattle.plan_spec.specs.declared.PlanStep.{PlanStep}
use Rattle.plan_spec.specs.declared.PlanStep.TheVariants.{Use, Domain}
use Rattle.plan_spec.specs.Cost.{cost_of, all_bound, side_bound}
use Rattle.planner.specs.Ranges.{SideInRange, ShapeInRange, ShapesInRange}
use Rattle.plan_spec.specs.Plan.{CanUse, State, state, IsStep, Leads, IsDone, IsPlan, AllFalse, Uses, bind, bind_all}
use Rattle.planner.specs.Choices.{AreCostlyBefore, IsNext, TakesDomain}

pub all_false-nil : AllFalse []
all_false-nil = record { each = λ i b h. cc }

push_get : {X : Type 0} (xs : List X) (x y : X) (i : ℕ) → slice_get (xs ++ x ∷ []) i ≡ Some y → (slice_get xs i ≡ Some y) ⊎ (x ≡ y)
push_get [] x y zero h = inr cc
push_get [] x y (suc i) h = cc
push_get (z ∷ xs) x y zero h = inl h
push_get (z ∷ xs) x y (suc i) h = push_get xs x y i h

pub all_false-push : (xs : List Bool) → AllFalse xs → AllFalse (xs ++ false ∷ [])
all_false-push xs a = record { each = λ i b h. elim (push_get xs false b i h) [ inl e ↦ a.each i b e | inr e ↦ sym e ] }

-- where no variable is free, every condition costs nothing
true_at : (bound : List Bool) (x : ℕ) → ((y : ℕ) → slice_get bound y ≡ Some false → ⊥) → x < length bound → get_or bound x false ≡ true
true_at [] x full l = absurd (omega arith)
true_at (true ∷ bound) zero full l = refl
true_at (false ∷ bound) zero full l = absurd (full zero refl)
true_at (b ∷ bound) (suc x) full l = true_at bound x (λ y h. full (suc y) h) (omega arith)

side_true : (bound : List Bool) (side : Option ℕ) → ((y : ℕ) → slice_get bound y ≡ Some false → ⊥) → SideInRange (length bound) side → side_bound bound side ≡ true
side_true bound None full r = refl
side_true bound (Some x) full r = true_at bound x full r

shape_true : (bound : List Bool) (c : Shape) → ((y : ℕ) → slice_get bound y ≡ Some false → ⊥) → ShapeInRange (length bound) c → all_bound bound c ≡ true
shape_true bound c full r =
    let f = side_true bound c.from full r.from in
    let a = side_true bound c.arc full r.arc in
    let t = side_true bound c.to full r.to in
    rw (f, a, t) refl

some_at : (shapes : List Shape) (i : ℕ) → i < length shapes → (c : Shape) × (slice_get shapes i ≡ Some c)
some_at [] i l = absurd (omega arith)
some_at (c ∷ shapes) zero l = (c, refl)
some_at (c ∷ shapes) (suc i) l = some_at shapes i (omega arith)

free : (sizes : Sizes) (bound : List Bool) (c : Shape) → all_bound bound c ≡ true → cost_of sizes bound c ≡ Some 0
free sizes bound c h = rw h refl

pub done : (sizes : Sizes) (shapes : List Shape) (used bound : List Bool) → ShapesInRange (length bound) shapes → length used ≡ length shapes
    → ((i cost : ℕ) → CanUse sizes shapes used bound i cost → ⊥) → ((y : ℕ) → slice_get bound y ≡ Some false → ⊥) → IsDone (state used bound)
done sizes shapes used bound ranges long none full = record {
  all_used = λ i h.
      (let lt : i < length shapes = (let l = slice_get_within used i false h in omega (arith, l, long)) in
      let c = some_at shapes i lt in
      none i 0 (record { unused = h; shape = c.0; stands = c.1; costs = free sizes bound c.0 (shape_true bound c.0 full (ranges i c.0 c.1)) }));
  all_bound = full;
}

pub length-push : {X : Type 0} (xs : List X) (x : X) → length (xs ++ x ∷ []) ≡ length xs + 1
length-push [] x = refl
length-push (y ∷ xs) x = omega (arith, length-push xs x)

pub next_domain : (sizes : Sizes) (arcs : List Bool) (shapes : List Shape) (used bound : List Bool) (r : Option PlanStep) (bound2 : List Bool)
    → ShapesInRange (length bound) shapes → length used ≡ length shapes → ((i cost : ℕ) → CanUse sizes shapes used bound i cost → ⊥)
    → TakesDomain sizes arcs bound r bound2 → IsNext sizes arcs shapes used bound r used bound2
next_domain sizes arcs shapes used bound None bound2 ranges long none t = (done sizes shapes used bound ranges long none t.0, refl, t.1)
next_domain sizes arcs shapes used bound (Some (Use i cost)) bound2 ranges long none t = absurd t
next_domain sizes arcs shapes used bound (Some (Domain x cost)) bound2 ranges long none t = (none, t.0, t.1, refl, t.2)

-- how many conditions are unused, or variables free
abbrev pub false_count : List Bool → ℕ
false_count [] = 0
false_count (true ∷ xs) = false_count xs
false_count (false ∷ xs) = 1 + false_count xs

count-set : (xs : List Bool) (i : ℕ) → slice_get xs i ≡ Some false → false_count (slice_set xs i true) < false_count xs
count-set [] i h = cc
count-set (true ∷ xs) zero h = cc
count-set (false ∷ xs) zero h = omega arith
count-set (true ∷ xs) (suc i) h = count-set xs i h
count-set (false ∷ xs) (suc i) h = omega (arith, count-set xs i h)

count-set_le : (xs : List Bool) (i : ℕ) → false_count (slice_set xs i true) ≤ false_count xs
count-set_le [] i = omega arith
count-set_le (true ∷ xs) zero = omega arith
count-set_le (false ∷ xs) zero = omega arith
count-set_le (true ∷ xs) (suc i) = count-set_le xs i
count-set_le (false ∷ xs) (suc i) = omega (arith, count-set_le xs i)

count-bind : (side : Option ℕ) (xs : List Bool) → false_count (bind side xs) ≤ false_count xs
count-bind None xs = omega arith
count-bind (Some x) xs = count-set_le xs x

count-bind_all : (c : Shape) (xs : List Bool) → false_count (bind_all c xs) ≤ false_count xs
count-bind_all c xs =
    let a = count-bind c.from xs in
    let b = count-bind c.arc (bind c.from xs) in
    let d = count-bind c.to (bind c.arc (bind c.from xs)) in
    omega (arith, a, b, d)

pub step_smaller : (sizes : Sizes) (arcs : List Bool) (shapes : List Shape) (used bound : List Bool) (step : PlanStep) (used2 bound2 : List Bool)
    → IsStep sizes arcs shapes (state used bound) step (state used2 bound2) → false_count used2 + false_count bound2 < false_count used + false_count bound
step_smaller sizes arcs shapes used bound (Use i cost) used2 bound2 s =
    let less = count-set used i s.0.can.unused in
    let le = count-bind_all s.1 bound in
    let eu : false_count used2 ≡ false_count (slice_set used i true) = ap false_count s.3 in
    let eb : false_count bound2 ≡ false_count (bind_all s.1 bound) = ap false_count s.4 in
    omega (arith, less, le, eu, eb)
step_smaller sizes arcs shapes used bound (Domain x cost) used2 bound2 s =
    let less = count-set bound x s.1.free in
    let eu : false_count used2 ≡ false_count used = ap false_count s.3 in
    let eb : false_count bound2 ≡ false_count (slice_set bound x true) = ap false_count s.4 in
    omega (arith, less, eu, eb)

leads-push : (sizes : Sizes) (arcs : List Bool) (shapes : List Shape) (s m r : State) (steps : List PlanStep) (step : PlanStep)
    → Leads sizes arcs shapes s steps m → IsStep sizes arcs shapes m step r → Leads sizes arcs shapes s (steps ++ step ∷ []) r
leads-push sizes arcs shapes s m r [] step l t = (r, subst (λ x. IsStep sizes arcs shapes x step r) (sym l) t, refl)
leads-push sizes arcs shapes s m r (x ∷ steps) step l t = (l.0, l.1, leads-push sizes arcs shapes l.0 m r steps step l.2 t)

-- while a plan is made: the steps so far lead from the beginning to here, and no condition before a number costs nothing
pub record IsUnderWay (sizes : Sizes) (arcs : List Bool) (shapes : List Shape) (bound used now : List Bool) (from : ℕ) (steps : List PlanStep) : Type 0 where
  pub used_long : length used ≡ length shapes
  pub bound_long : length now ≡ length bound
  pub first : List Bool
  pub first_long : length first ≡ length shapes
  pub first_unused : AllFalse first
  pub leads : Leads sizes arcs shapes (state first bound) steps (state used now)
  pub costly : AreCostlyBefore sizes shapes used now from

pub under_way-more : (sizes : Sizes) (arcs : List Bool) (shapes : List Shape) (bound used now : List Bool) (from : ℕ) (steps : List PlanStep) (step : PlanStep) (used2 now2 : List Bool) (from2 : ℕ)
    → IsUnderWay sizes arcs shapes bound used now from steps → length used2 ≡ length used → length now2 ≡ length now → IsStep sizes arcs shapes (state used now) step (state used2 now2)
    → AreCostlyBefore sizes shapes used2 now2 from2 → IsUnderWay sizes arcs shapes bound used2 now2 from2 (steps ++ step ∷ [])
under_way-more sizes arcs shapes bound used now from steps step used2 now2 from2 w lu ln s costly = record {
  used_long = lu ∙ w.used_long;
  bound_long = ln ∙ w.bound_long;
  first = w.first;
  first_long = w.first_long;
  first_unused = w.first_unused;
  leads = leads-push sizes arcs shapes (state w.first bound) (state used now) (state used2 now2) steps step w.leads s;
  costly = costly;
}

pub under_way-end : (sizes : Sizes) (arcs : List Bool) (shapes : List Shape) (bound used now : List Bool) (from : ℕ) (steps : List PlanStep)
    → IsUnderWay sizes arcs shapes bound used now from steps → IsDone (state used now) → IsPlan sizes arcs shapes bound steps
under_way-end sizes arcs shapes bound used now from steps w d = record {
  used = w.first;
  one_each = w.first_long;
  none_used = w.first_unused;
  end = state used now;
  leads = w.leads;
  done = d;
}

pub set_cases : {X : Type 0} (xs : List X) (k j : ℕ) (y : X) → (k ≡ j) ⊎ (slice_get (slice_set xs k y) j ≡ slice_get xs j)
set_cases [] k j y = inr refl
set_cases (z ∷ xs) zero zero y = inl refl
set_cases (z ∷ xs) zero (suc j) y = inr refl
set_cases (z ∷ xs) (suc k) zero y = inr refl
set_cases (z ∷ xs) (suc k) (suc j) y = elim (set_cases xs k j y) [ inl e ↦ inl (ap suc e) | inr e ↦ inr e ]

-- what is unused at the beginning and used at the end is used at some step
used_between : (sizes : Sizes) (arcs : List Bool) (shapes : List Shape) (s r : State) (steps : List PlanStep) (i : ℕ)
    → Leads sizes arcs shapes s steps r → slice_get s.used i ≡ Some false → (slice_get r.used i ≡ Some false → ⊥) → Uses steps i
used_between sizes arcs shapes s r [] i l h n = absurd (n (subst (λ x. slice_get x.used i ≡ Some false) l h))
used_between sizes arcs shapes s r (Use j cost ∷ steps) i l h n = elim (set_cases s.used j i true) [
  | inl e ↦ inl e
  | inr same ↦ inr (used_between sizes arcs shapes l.0 r steps i l.2 (subst (λ us. slice_get us i ≡ Some false) (sym l.1.3) (same ∙ h)) n)
]
used_between sizes arcs shapes s r (Domain x cost ∷ steps) i l h n =
    used_between sizes arcs shapes l.0 r steps i l.2 (subst (λ us. slice_get us i ≡ Some false) (sym l.1.3) h) n

bool_at : (xs : List Bool) (i : ℕ) → i < length xs → (b : Bool) × (slice_get xs i ≡ Some b)
bool_at [] i l = absurd (omega arith)
bool_at (x ∷ xs) zero l = (x, refl)
bool_at (x ∷ xs) (suc i) l = bool_at xs i (omega arith)

-- a plan uses each condition
pub plan_uses : (sizes : Sizes) (arcs : List Bool) (shapes : List Shape) (bound : List Bool) (steps : List PlanStep) → IsPlan sizes arcs shapes bound steps → (i : ℕ) → i < length shapes → Uses steps i
plan_uses sizes arcs shapes bound steps p i l =
    let lt : i < length p.used = (let e = p.one_each in omega (arith, l, e)) in
    let at = bool_at p.used i lt in
    let free : slice_get p.used i ≡ Some false = (let e = p.none_used.each i at.0 at.1 in at.1 ∙ ap Some e) in
    used_between sizes arcs shapes (state p.used bound) p.end steps i p.leads free (p.done.all_used i)
