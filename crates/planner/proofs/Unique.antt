-- A plan's steps are told by where it begins, and none uses a condition twice.
use Rattle.std.proofs.Common.{◌≡◌, ℕ, zero, suc, ◌<◌, List, [], ◌∷◌, length, arith, refl, ap, sym, ◌∙◌, inl, inr, subst}
use Rattle.std.specs.Prelude.{◌⊎◌, Bool, true, false, Option, None, Some, slice_get, slice_set}
use Rattle.std.proofs.lemmas.Option.{slice_get_within}
use Rattle.store.specs.declared.Sizes.{Sizes}
use Rattle.plan_spec.specs.declared.Shape.{Shape}
use Rattle.plan_spec.specs.declared.PlanStep.{PlanStep}
use Rattle.plan_spec.specs.declared.PlanStep.TheVariants.{Use, Domain}
use Rattle.plan_spec.specs.Plan.{IsBest, State, state, IsStep, Leads, IsDone, AllFalse, Uses, NoneTwice, AreStepsOver, IsTheOnlyPlan, bind, bind_all, domain_cost}

which : (m n : ℕ) → (m ≡ n) ⊎ (m < n) ⊎ (n < m)
which m n = search arith

module _ (sizes : Sizes) (arcs : List Bool) (shapes : List Shape) where
  one_cost : (s : State) (i j c d : ℕ) → IsBest sizes shapes s.used s.bound i c → IsBest sizes shapes s.used s.bound j d → c ≡ d
  one_cost s i j c d a b = let p = a.least j d b.can in let q = b.least i c a.can in omega (arith, p, q)

  one_best : (s : State) (i j c d : ℕ) → IsBest sizes shapes s.used s.bound i c → IsBest sizes shapes s.used s.bound j d → i ≡ j
  one_best s i j c d a b = let e = one_cost s i j c d a b in elim (which i j) [
    | inl same ↦ same
    | inr (inl less) ↦ (let m = b.first i c a.can less in absurd (omega (arith, m, e)))
    | inr (inr more) ↦ (let m = a.first j d b.can more in absurd (omega (arith, m, e)))
  ]

  one_state : (r m : State) → r.used ≡ m.used → r.bound ≡ m.bound → r ≡ m
  one_state r m u b = λ i. record { used = u i; bound = b i }

  -- a state has one next step
  one_step : (s : State) (p q : PlanStep) (r m : State) → IsStep sizes arcs shapes s p r → IsStep sizes arcs shapes s q m → (p ≡ q) × (r ≡ m)
  one_step s (Use i c) (Use j d) r m h k =
      let same = one_best s i j c d h.0 k.0 in
      let cost = one_cost s i j c d h.0 k.0 in
      let there : slice_get shapes i ≡ Some k.1 = subst (λ n. slice_get shapes n ≡ Some k.1) (sym same) k.2 in
      let shape : h.1 ≡ k.1 = (let here = h.2 in cc) in (
        (λ x. Use (same x) (cost x)),
        one_state r m (h.3 ∙ (ap (λ n. slice_set s.used n true) same ∙ sym k.3)) (h.4 ∙ (ap (λ w. bind_all w s.bound) shape ∙ sym k.4)),
      )
  one_step s (Use i c) (Domain y d) r m h k = absurd (k.0 i c h.0.can)
  one_step s (Domain x c) (Use j d) r m h k = absurd (h.0 j d k.0.can)
  one_step s (Domain x c) (Domain y d) r m h k =
      let p = h.1.first y k.1.free in
      let q = k.1.first x h.1.free in
      let same : x ≡ y = omega (arith, p, q) in
      let cost : c ≡ d = h.2 ∙ (ap (domain_cost sizes arcs) same ∙ sym k.2) in (
        (λ i. Domain (same i) (cost i)),
        one_state r m (h.3 ∙ sym k.3) (h.4 ∙ (ap (λ n. slice_set s.bound n true) same ∙ sym k.4)),
      )

  -- what is done has no further step
  no_step : (s : State) (p : PlanStep) (r : State) → IsDone s → IsStep sizes arcs shapes s p r → ⊥
  no_step s (Use i c) r d h = d.all_used i h.0.can.unused
  no_step s (Domain x c) r d h = d.all_bound x h.1.free

  one_way : (s r m : State) (ps qs : List PlanStep) → Leads sizes arcs shapes s ps r → Leads sizes arcs shapes s qs m → IsDone r → IsDone m → ps ≡ qs
  one_way s r m [] [] h k d e = refl
  one_way s r m [] (q ∷ qs) h k d e = absurd (no_step s q k.0 (subst IsDone (sym h) d) k.1)
  one_way s r m (p ∷ ps) [] h k d e = absurd (no_step s p h.0 (subst IsDone (sym k) e) h.1)
  one_way s r m (p ∷ ps) (q ∷ qs) h k d e =
      let step = one_step s p q h.0 k.0 h.1 k.1 in
      let rest = one_way h.0 r m ps qs h.2 (subst (λ x. Leads sizes arcs shapes x qs m) (sym step.1) k.2) d e in
      λ i. step.0 i ∷ rest i

  all_false_one : (us vs : List Bool) → length us ≡ length vs → AllFalse us → AllFalse vs → us ≡ vs
  all_false_one [] [] l a b = refl
  all_false_one [] (v ∷ vs) l a b = absurd (omega (arith, l))
  all_false_one (u ∷ us) [] l a b = absurd (omega (arith, l))
  all_false_one (u ∷ us) (v ∷ vs) l a b =
      let head : u ≡ v = a.each zero u refl ∙ sym (b.each zero v refl) in
      let rest = all_false_one us vs (omega (arith, l)) (record { each = λ i x h. a.each (suc i) x h }) (record { each = λ i x h. b.each (suc i) x h }) in
      λ i. head i ∷ rest i

  pub one_plan : (bound : List Bool) → IsTheOnlyPlan sizes arcs shapes bound
  one_plan bound steps others p q =
      let same = all_false_one p.used q.used (p.one_each ∙ sym q.one_each) p.none_used q.none_used in
      one_way (state p.used bound) p.end q.end steps others p.leads (subst (λ us. Leads sizes arcs shapes (state us bound) others q.end) (sym same) q.leads) p.done q.done

  stays_true : (us : List Bool) (k i : ℕ) → slice_get us i ≡ Some true → slice_get (slice_set us k true) i ≡ Some true
  stays_true [] k i h = h
  stays_true (u ∷ us) zero zero h = refl
  stays_true (u ∷ us) zero (suc i) h = h
  stays_true (u ∷ us) (suc k) zero h = h
  stays_true (u ∷ us) (suc k) (suc i) h = stays_true us k i h

  set_true : (us : List Bool) (k : ℕ) (u : Bool) → slice_get us k ≡ Some u → slice_get (slice_set us k true) k ≡ Some true
  set_true [] k u h = cc
  set_true (x ∷ us) zero u h = refl
  set_true (x ∷ us) (suc k) u h = set_true us k u h

  -- what is used isn't used again
  not_again : (s r : State) (steps : List PlanStep) (i : ℕ) → Leads sizes arcs shapes s steps r → slice_get s.used i ≡ Some true → Uses steps i → ⊥
  not_again s r [] i l h u = u
  not_again s r (Use j cost ∷ steps) i l h (inl same) = let free = l.1.0.can.unused in let there : slice_get s.used i ≡ Some false = subst (λ n. slice_get s.used n ≡ Some false) same free in cc
  not_again s r (Use j cost ∷ steps) i l h (inr rest) = not_again l.0 r steps i l.2 (subst (λ us. slice_get us i ≡ Some true) (sym l.1.3) (stays_true s.used j i h)) rest
  not_again s r (Domain x cost ∷ steps) i l h u = not_again l.0 r steps i l.2 (subst (λ us. slice_get us i ≡ Some true) (sym l.1.3) h) u

  pub none_twice : (s r : State) (steps : List PlanStep) → Leads sizes arcs shapes s steps r → NoneTwice steps
  none_twice s r [] l = tt
  none_twice s r (Use j cost ∷ steps) l = (
    not_again l.0 r steps j l.2 (subst (λ us. slice_get us j ≡ Some true) (sym l.1.3) (set_true s.used j false l.1.0.can.unused)),
    none_twice l.0 r steps l.2,
  )
  none_twice s r (Domain x cost ∷ steps) l = none_twice l.0 r steps l.2

  length-set : (xs : List Bool) (k : ℕ) (y : Bool) → length (slice_set xs k y) ≡ length xs
  length-set [] k y = refl
  length-set (z ∷ xs) zero y = refl
  length-set (z ∷ xs) (suc k) y = ap suc (length-set xs k y)

  length-bind : (side : Option ℕ) (xs : List Bool) → length (bind side xs) ≡ length xs
  length-bind None xs = refl
  length-bind (Some x) xs = length-set xs x true

  length-bind_all : (c : Shape) (xs : List Bool) → length (bind_all c xs) ≡ length xs
  length-bind_all c xs = length-bind c.to (bind c.arc (bind c.from xs)) ∙ (length-bind c.arc (bind c.from xs) ∙ length-bind c.from xs)

  pub steps_over : (n : ℕ) (s r : State) (steps : List PlanStep) → length s.bound ≡ n → Leads sizes arcs shapes s steps r → AreStepsOver (length shapes) n steps
  steps_over n s r [] e l = tt
  steps_over n s r (Use j cost ∷ steps) e l = (
    slice_get_within shapes j l.1.1 l.1.2,
    steps_over n l.0 r steps (ap length l.1.4 ∙ (length-bind_all l.1.1 s.bound ∙ e)) l.2,
  )
  steps_over n s r (Domain x cost ∷ steps) e l = (
    (let w = l.1.1.within in omega (arith, w, e)),
    steps_over n l.0 r steps (ap length l.1.4 ∙ (length-set s.bound x true ∙ e)) l.2,
  )
