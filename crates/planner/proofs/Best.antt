-- The best condition of a part of them.
use Rattle.std.proofs.Common.{◌≡◌, ℕ, zero, suc, ◌+◌, ◌<◌, ◌≤◌, List, [], ◌∷◌, length, arith, refl, sym, ap, ◌∙◌, inl, inr, subst}
use Rattle.std.specs.Prelude.{◌⊎◌, ◌&&◌, Bool, true, false, Option, None, Some, slice_get, slice_set, slice_index_or, MatchOption, if◌then◌else◌}
use Rattle.std.proofs.lemmas.Bool.{cases_lt}
use Rattle.std.proofs.lemmas.Option.{slice_get_within}
use Rattle.store.specs.declared.Sizes.{Sizes}
use Rattle.plan_spec.specs.declared.Shape.{Shape}
use Rattle.planner.specs.declared.steps.Candidate.{Candidate}
use Rattle.plan_spec.specs.Cost.{cost_of, all_bound, side_bound}
use Rattle.plan_spec.specs.Plan.{CanUse, IsBest, bind, bind_all}
use Rattle.planner.specs.Choices.{IsBetter, CostsNothing, IsBestFrom, AreCostlyBefore, LooksFrom}

pub record IsBestOf (sizes : Sizes) (shapes : List Shape) (used bound : List Bool) (from n : ℕ) (c : Candidate) : Type 0 where
  pub can : CanUse sizes shapes used bound c.condition c.cost
  pub least : (j other : ℕ) → from ≤ j → j < n → CanUse sizes shapes used bound j other → c.cost ≤ other
  pub first : (j other : ℕ) → from ≤ j → CanUse sizes shapes used bound j other → j < c.condition → c.cost < other

-- among the conditions from one on and before n
abbrev pub IsBestBetween : Sizes → List Shape → List Bool → List Bool → ℕ → ℕ → Option Candidate → Type 0
IsBestBetween sizes shapes used bound from n None = (j other : ℕ) → from ≤ j → j < n → CanUse sizes shapes used bound j other → ⊥
IsBestBetween sizes shapes used bound from n (Some c) = IsBestOf sizes shapes used bound from n c

module _ (sizes : Sizes) (shapes : List Shape) (used bound : List Bool) where
  -- what can be used at n is told by its cost
  can_at : (n : ℕ) (u : Bool) (c : Shape) (other : ℕ) → slice_get used n ≡ Some u → slice_get shapes n ≡ Some c → CanUse sizes shapes used bound n other → (if u then None else cost_of sizes bound c) ≡ Some other
  can_at n true c other hu hc k = let e = k.unused in cc
  can_at n false c other hu hc k = let same : k.shape ≡ c = (let s = k.stands in cc) in subst (λ x. cost_of sizes bound x ≡ Some other) same k.costs

  can_from : (n : ℕ) (u : Bool) (c : Shape) (cost : ℕ) → slice_get used n ≡ Some u → slice_get shapes n ≡ Some c → (if u then None else cost_of sizes bound c) ≡ Some cost → CanUse sizes shapes used bound n cost
  can_from n true c cost hu hc h = cc
  can_from n false c cost hu hc h = record { unused = hu; shape = c; stands = hc; costs = h }

  split_below : (j n : ℕ) → j < n + 1 → (j < n) ⊎ (j ≡ n)
  split_below j n h = search (arith, h)

  within : (n : ℕ) → length shapes ≤ n → (j other : ℕ) → CanUse sizes shapes used bound j other → j < n
  within n l j other k = let m = slice_get_within shapes j k.shape k.stands in omega (arith, m, l)

  which : (m n : ℕ) → (m < n) ⊎ (n ≤ m)
  which m n = search arith

  module _ (from : ℕ) where
    abbrev Between : ℕ → Option Candidate → Type 0
    Between n r = IsBestBetween sizes shapes used bound from n r

    pub best-init : Between from None
    best-init = λ j other m l. absurd (omega arith)

    -- one more condition
    pub best-more : (n : ℕ) (u : Bool) (c : Shape) (old : Option Candidate) (cost : Option ℕ) (new : Option Candidate)
        → slice_get used n ≡ Some u → slice_get shapes n ≡ Some c → cost ≡ (if u then None else cost_of sizes bound c) → Between n old → IsBetter old n cost new → Between (n + 1) new
    best-more n u c None None new hu hc e h b = subst (Between (n + 1)) (sym b)
        (λ j other f l k. elim (split_below j n l) [ inl m ↦ h j other f m k | inr same ↦ (let at = can_at n u c other hu hc (subst (λ i. CanUse sizes shapes used bound i other) same k) in cc) ])
    best-more n u c None (Some cost) new hu hc e h b = subst (Between (n + 1)) (sym b) (record {
      can = can_from n u c cost hu hc (sym e);
      least = λ j other f l k. elim (split_below j n l) [ inl m ↦ absurd (h j other f m k) | inr same ↦ (let at = can_at n u c other hu hc (subst (λ i. CanUse sizes shapes used bound i other) same k) in let equal : cost ≡ other = cc in omega (arith, equal)) ];
      first = λ j other f k l. absurd (h j other f l k);
    })
    best-more n u c (Some old) None new hu hc e h b = subst (Between (n + 1)) (sym b) (record {
      can = h.can;
      least = λ j other f l k. elim (split_below j n l) [ inl m ↦ h.least j other f m k | inr same ↦ (let at = can_at n u c other hu hc (subst (λ i. CanUse sizes shapes used bound i other) same k) in cc) ];
      first = h.first;
    })
    best-more n u c (Some old) (Some cost) new hu hc e h b = elim (which cost old.cost) [
      | inl less ↦ subst (Between (n + 1)) (sym (b.0 less)) (record {
        can = can_from n u c cost hu hc (sym e);
        least = λ j other f l k. elim (split_below j n l) [ inl m ↦ (let g = h.least j other f m k in omega (arith, g, less)) | inr same ↦ (let at = can_at n u c other hu hc (subst (λ i. CanUse sizes shapes used bound i other) same k) in let equal : cost ≡ other = cc in omega (arith, equal)) ];
        first = λ j other f k l. (let g = h.least j other f l k in omega (arith, g, less));
      })
      | inr more ↦ subst (Between (n + 1)) (sym (b.1 more)) (record {
        can = h.can;
        least = λ j other f l k. elim (split_below j n l) [ inl m ↦ h.least j other f m k | inr same ↦ (let at = can_at n u c other hu hc (subst (λ i. CanUse sizes shapes used bound i other) same k) in let equal : cost ≡ other = cc in omega (arith, equal, more)) ];
        first = h.first;
      })
    ]

    abbrev BestFrom : Option Candidate → Type 0
    BestFrom r = MatchOption r ((j other : ℕ) → from ≤ j → CanUse sizes shapes used bound j other → ⊥) (λ c. IsBestFrom sizes shapes used bound from c.condition c.cost)

    -- behind the last condition there is none
    pub best-end : (r : Option Candidate) (n : ℕ) → length shapes ≤ n → Between n r → BestFrom r
    best-end None n l h = λ j other f k. h j other f (within n l j other k) k
    best-end (Some c) n l h = record { can = h.can; least = λ j other f k. h.least j other f (within n l j other k) k; first = h.first }

    -- nor is one better than one that costs nothing
    pub best-free : (r : Option Candidate) (n : ℕ) → CostsNothing r → Between n r → BestFrom r
    best-free None n free h = absurd free
    best-free (Some c) n free h = record { can = h.can; least = λ j other f k. omega (arith, free); first = h.first }

    abbrev Best : Option Candidate → Type 0
    Best r = MatchOption r ((j other : ℕ) → CanUse sizes shapes used bound j other → ⊥) (λ c. IsBest sizes shapes used bound c.condition c.cost)

    -- all conditions are those from the first one on
    pub best-all : (r : Option Candidate) → from ≡ 0 → BestFrom r → Best r
    best-all None begin h = λ j other k. h j other (omega (arith, begin)) k
    best-all (Some c) begin h = record { can = h.can; least = λ j other k. h.least j other (omega (arith, begin)) k; first = λ j other k l. h.first j other (omega (arith, begin)) k l }

    -- and where those before cost something, what costs nothing is the best of all
    pub best-behind : (r : Option Candidate) → AreCostlyBefore sizes shapes used bound from → CostsNothing r → BestFrom r → Best r
    best-behind None costly free h = absurd free
    best-behind (Some c) costly free h = record {
      can = h.can;
      least = λ j other k. omega (arith, free);
      first = λ j other k l. elim (which j from) [
        | inl before ↦ (let more = costly j other before k in omega (arith, more, free))
        | inr behind ↦ h.first j other behind k l
      ];
    }

module _ (sizes : Sizes) (shapes : List Shape) (used bound : List Bool) where
  -- a variable that is bound stays so
  set_true_again : (bs : List Bool) (x : ℕ) → slice_index_or bs x false ≡ true → slice_set bs x true ≡ bs
  set_true_again [] x h = refl
  set_true_again (b ∷ bs) zero h = ap (λ c. c ∷ bs) (sym h)
  set_true_again (b ∷ bs) (suc x) h = ap (λ cs. b ∷ cs) (set_true_again bs x h)

  bind_again : (bs : List Bool) (side : Option ℕ) → side_bound bs side ≡ true → bind side bs ≡ bs
  bind_again bs None h = refl
  bind_again bs (Some x) h = set_true_again bs x h

  and_true : (a b : Bool) → (a && b) ≡ true → (a ≡ true) × (b ≡ true)
  and_true true b h = (refl, h)
  and_true false b h = cc

  -- where all are bound, nothing new is
  pub binds_nothing : (c : Shape) → all_bound bound c ≡ true → bind_all c bound ≡ bound
  binds_nothing c h =
      let ends = and_true (side_bound bound c.from && side_bound bound c.arc) (side_bound bound c.to) h in
      let two = and_true (side_bound bound c.from) (side_bound bound c.arc) ends.0 in
      let from = bind_again bound c.from two.0 in
      let arc : bind c.arc (bind c.from bound) ≡ bound = ap (bind c.arc) from ∙ bind_again bound c.arc two.1 in
      ap (bind c.to) arc ∙ bind_again bound c.to ends.1

  unused_before : (us : List Bool) (i j : ℕ) → slice_get (slice_set us i true) j ≡ Some false → (j ≡ i → ⊥) × (slice_get us j ≡ Some false)
  unused_before [] i j h = cc
  unused_before (u ∷ us) zero zero h = cc
  unused_before (u ∷ us) zero (suc j) h = (λ e. cc, h)
  unused_before (u ∷ us) (suc i) zero h = (λ e. cc, h)
  unused_before (u ∷ us) (suc i) (suc j) h = let rest = unused_before us i j h in (λ e. rest.0 (omega (arith, e)), rest.1)

  -- after the best condition was used, the next look may begin where it says
  pub costly_next : (i cost from : ℕ) (used2 bound2 : List Bool) (c : Shape) → IsBest sizes shapes used bound i cost → slice_get shapes i ≡ Some c
      → used2 ≡ slice_set used i true → bound2 ≡ bind_all c bound → LooksFrom shapes i bound from → AreCostlyBefore sizes shapes used2 bound2 from
  costly_next i cost from used2 bound2 c best at us bs (inl none) j other l k = absurd (omega (arith, none, l))
  costly_next i cost from used2 bound2 c best at us bs (inr (d, there, all, is)) j other l k =
      let same : d ≡ c = cc in
      let stay : bound2 ≡ bound = bs ∙ binds_nothing c (subst (λ s. all_bound bound s ≡ true) same all) in
      let free = unused_before used i j (subst (λ xs. slice_get xs j ≡ Some false) us k.unused) in
      let before : j < i = below j i (omega (arith, l, is)) free.0 in
      let costs = subst (λ bs. cost_of sizes bs k.shape ≡ Some other) stay k.costs in
      let more = best.first j other (record { unused = free.1; shape = k.shape; stands = k.stands; costs = costs }) before in
      omega (arith, more)
    where
      below : (j i : ℕ) → j < i + 1 → (j ≡ i → ⊥) → j < i
      below j i l n = elim (cases_lt j i) [ inl m ↦ m | inr m ↦ absurd (n (omega (arith, l, m))) ]
