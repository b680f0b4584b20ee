-- Laws of the steps of a search.
use Rattle.std.proofs.Common.{◌≡◌, ℕ, ◌+◌, ◌<◌, ◌≤◌, List, arith, refl, inl, inr, subst}
use Rattle.std.specs.Prelude.{◌⊎◌, Bool, true, false, Option, Some, slice_get, if◌then◌else◌}
use Rattle.sd_value.specs.declared.Value.{Value}
use Rattle.graph_spec.specs.DataGraph.{DataGraph}
use Rattle.condition_tests.specs.declared.literal.Literal.{Literal}
use Rattle.condition_tests.specs.declared.literal.Goal.{Goal}
use Rattle.condition_tests.specs.declared.literal.Goal.TheVariants.{Holds}
use Rattle.condition_tests.specs.Known.{Agrees}
use Rattle.condition_tests.specs.Meaning.{LiteralHolds, GoalHolds}
use Rattle.bindings.specs.Fits.{Fits, IsOpening, IsChoice}

-- the goals between the two numbers hold of each row that agrees
pub record IsReached (G : DataGraph) (version : ℕ) (arcs : List Bool) (goals : List Goal) (at next : ℕ) (s : List (Option Value)) : Type 0 where
  pub forward : at ≤ next
  pub met : (k : ℕ) (g : Goal) (t : List Value) → at ≤ k → k < next → slice_get goals k ≡ Some g → Agrees t s → GoalHolds G version g t

module _ (G : DataGraph) (version : ℕ) (arcs : List Bool) (goals : List Goal) where
  from_next : (at next : ℕ) → next ≡ at + 1 → (t : List Value) (s : List (Option Value)) → Fits G version arcs goals next s t → (k : ℕ) (g : Goal) → at < k → slice_get goals k ≡ Some g → GoalHolds G version g t
  from_next at next e t s f k g m q = f.goals_hold k g (omega (arith, e)) q

  at_or_after : (at k : ℕ) → at ≤ k → (k ≡ at) ⊎ (at < k)
  at_or_after at k h = search (arith, h)

  first_or_later : (at : ℕ) (s : List (Option Value)) (l : Literal) → slice_get goals at ≡ Some (Holds l) → (t : List Value) (k : ℕ) (g : Goal) → LiteralHolds G version l t
      → ((j : ℕ) (h : Goal) → at < j → slice_get goals j ≡ Some h → GoalHolds G version h t) → at ≤ k → slice_get goals k ≡ Some g → GoalHolds G version g t
  first_or_later at s l here t k g now later m q = elim (at_or_after at k m) [
    | inl e ↦ (let there : slice_get goals at ≡ Some g = subst (λ j. slice_get goals j ≡ Some g) e q in let same : Holds l ≡ g = cc in subst (λ x. GoalHolds G version x t) same now)
    | inr n ↦ later k g n q
  ]

  pub choice_for : (at : ℕ) (s : List (Option Value)) (l : Literal) (slot : ℕ) (values : List Value) (settled : Bool) (next : ℕ)
      → slice_get goals at ≡ Some (Holds l) → IsOpening G arcs (LiteralHolds G version l) s slot values settled → next ≡ (if settled then at + 1 else at) → IsChoice G version arcs goals at s slot values next
  choice_for at s l slot values true next here o e = record {
    free = o.free;
    forward = omega (arith, e);
    within = o.within;
    complete = λ t v f h. o.complete t v f.agrees f.in_domains (f.goals_hold at (Holds l) (omega arith) here) h;
    exact = λ t v c h f. record {
      agrees = f.agrees;
      in_domains = f.in_domains;
      goals_hold = λ k g m q. first_or_later at s l here t k g (o.exact refl t v c h f.agrees) (from_next at next e t s f) m q;
    };
  }
  choice_for at s l slot values false next here o e = record {
    free = o.free;
    forward = omega (arith, e);
    within = o.within;
    complete = λ t v f h. o.complete t v f.agrees f.in_domains (f.goals_hold at (Holds l) (omega arith) here) h;
    exact = λ t v c h f. subst (λ n. Fits G version arcs goals n s t) e f;
  }

  -- a later goal's values are a choice too, since a row has to meet that goal
  pub choice_early : (at later : ℕ) (s : List (Option Value)) (l : Literal) (slot : ℕ) (values : List Value) (settled : Bool) → at ≤ later
      → slice_get goals later ≡ Some (Holds l) → IsOpening G arcs (LiteralHolds G version l) s slot values settled → IsChoice G version arcs goals at s slot values at
  choice_early at later s l slot values settled from here o = record {
    free = o.free;
    forward = omega arith;
    within = o.within;
    complete = λ t v f h. o.complete t v f.agrees f.in_domains (f.goals_hold later (Holds l) from here) h;
    exact = λ t v c h f. f;
  }
