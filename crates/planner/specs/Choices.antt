-- What the steps of the search for a plan have found.
use Rattle.std.specs.Prelude.{◌≡◌, ◌⊎◌, ◌+◌, ◌≤◌, ◌<◌, ℕ, List, Option, None, Some, Bool, true, false, slice_get, slice_set}
use Rattle.store.specs.declared.Sizes.{Sizes}
use Rattle.plan_spec.specs.declared.Shape.{Shape}
use Rattle.planner.specs.declared.steps.Candidate.{Candidate}
use Rattle.plan_spec.specs.declared.PlanStep.{PlanStep}
use Rattle.plan_spec.specs.declared.PlanStep.TheVariants.{Use, Domain}
use Rattle.plan_spec.specs.Cost.{all_bound}
use Rattle.plan_spec.specs.Plan.{CanUse, IsFirstFree, IsStep, IsDone, bind_all, domain_cost, state}

-- the later one takes the place of the earlier one only where it costs less
abbrev pub IsBetter : Option Candidate → ℕ → Option ℕ → Option Candidate → Type 0
IsBetter None i None r = r ≡ None
IsBetter None i (Some cost) r = r ≡ Some (record { condition = i; cost = cost })
IsBetter (Some old) i None r = r ≡ Some old
IsBetter (Some old) i (Some cost) r =
    (cost < old.cost → r ≡ Some (record {
      condition = i;
      cost = cost;
    })) × (old.cost ≤ cost → r ≡ Some old)

-- nothing can cost less than this
abbrev pub CostsNothing : Option Candidate → Type 0
CostsNothing None = ⊥
CostsNothing (Some c) = c.cost ≡ 0

module _ (sizes : Sizes) (shapes : List Shape) (used bound : List Bool) where
  -- of the conditions from n on none costs less, and none before it as little
  pub record IsBestFrom (n i cost : ℕ) : Type 0 where
    pub can : CanUse sizes shapes used bound i cost
    pub least : (j other : ℕ) → n ≤ j → CanUse sizes shapes used bound j other → cost ≤ other
    pub first : (j other : ℕ) → n ≤ j → CanUse sizes shapes used bound j other → j < i
        → cost < other

  -- each condition before n that can be used costs something
  abbrev pub AreCostlyBefore : ℕ → Type 0
  AreCostlyBefore n = (j cost : ℕ) → j < n → CanUse sizes shapes used bound j cost → 0 < cost

-- where to look first, after a condition: behind it where it binds nothing new
abbrev pub LooksFrom : List Shape → ℕ → List Bool → ℕ → Type 0
LooksFrom shapes i bound from =
    (from ≡ 0) ⊎ ((c : Shape) × (slice_get shapes i ≡ Some c) × (all_bound bound c ≡ true)
    × (from ≡ i + 1))

-- what the condition of that number binds is bound after it
pub record BindsShape (shapes : List Shape) (i : ℕ) (old new : List Bool) : Type 0 where
  pub shape : Shape
  pub stands : slice_get shapes i ≡ Some shape
  pub binds : new ≡ bind_all shape old

-- the first free variable takes its domain, or there is none
abbrev pub TakesDomain : Sizes → List Bool → List Bool → Option PlanStep → List Bool → Type 0
TakesDomain sizes arcs bound None bound2 =
    ((x : ℕ) → slice_get bound x ≡ Some false → ⊥) × (bound2 ≡ bound)
TakesDomain sizes arcs bound (Some (Use i cost)) bound2 = ⊥
TakesDomain sizes arcs bound (Some (Domain x cost)) bound2 =
    IsFirstFree bound x × (cost ≡ domain_cost sizes arcs x) × (bound2 ≡ slice_set bound x true)

-- a step that can be taken, or the end
abbrev pub IsNext : Sizes → List Bool → List Shape → List Bool → List Bool → Option PlanStep
    → List Bool → List Bool → Type 0
IsNext sizes arcs shapes used bound None used2 bound2 =
    IsDone (state used bound) × (used2 ≡ used) × (bound2 ≡ bound)
IsNext sizes arcs shapes used bound (Some step) used2 bound2 =
    IsStep sizes arcs shapes (state used bound) step (state used2 bound2)
