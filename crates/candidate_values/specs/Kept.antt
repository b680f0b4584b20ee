-- What is kept of the walks of a search's goals.
use Rattle.std.specs.Prelude.{◌≡◌, ◌≤◌, ◌<◌, ℕ, List, length, Some, Bool, slice_get}
use Rattle.std.specs.declared.cmp.Ordering.{Ordering}
use Rattle.std.specs.Ordering.{nat_cmp, ordering_then}
use Rattle.std.specs.Global.{Vec}
use Rattle.std.specs.BTreeMap.{BTreeMap, get}
use Rattle.sd_value.specs.declared.Value.{Value}
use Rattle.sd_value.specs.Order.{value_cmp}
use Rattle.sd_value.specs.Ascending.{ListsExactly}
use Rattle.graph_spec.specs.DataGraph.{DataGraph}
use Rattle.automaton.specs.Table.{Table}
use Rattle.walks.specs.declared.direction.Direction.{Direction}
use Rattle.walks.specs.declared.direction.Direction.TheVariants.{Onward, Backward}
use Rattle.walks.specs.Directions.{JoinsBy}
use Rattle.condition_tests.specs.declared.literal.Slot.{Slot}
use Rattle.condition_tests.specs.declared.literal.Relation.TheVariants.{Walk}
use Rattle.condition_tests.specs.declared.literal.Atom.TheVariants.{Two}
use Rattle.condition_tests.specs.declared.literal.Goal.{Goal}
use Rattle.condition_tests.specs.declared.literal.Goal.TheVariants.{Holds}
use Rattle.candidate_values.specs.declared.reaches.Reaches.{Reaches}

-- the goal of that number asks for a walk by the automaton, or for none
abbrev pub IsWalkOf : List Goal → ℕ → Table → Type 0
IsWalkOf goals k t =
    (negated : Bool) × (p : Slot) × (q : Slot)
    × (slice_get goals k ≡ Some (Holds (record { negated = negated; atom = Two p (Walk t) q })))

-- keys are a goal's number and a value
abbrev pub key_cmp : ℕ × Value → ℕ × Value → Ordering
key_cmp a b = ordering_then (nat_cmp a.0 b.0) (value_cmp a.1 b.1)

module _ (G : DataGraph) (goals : List Goal) where
  -- where the key's goal is a walk, the list has exactly the values that walks join with the key's value on this way
  abbrev pub IsReach : Direction → ℕ × Value → List Value → Type 0
  IsReach d key values =
      (t : Table) → IsWalkOf goals key.0 t → ListsExactly value_cmp (JoinsBy G t d key.1) values

  abbrev pub AreReaches : Direction → BTreeMap (ℕ × Value) (Vec Value) → Type 0
  AreReaches d lists =
      (key : ℕ × Value) (values : Vec Value) → get key_cmp lists key ≡ Some values
      → IsReach d key values.items

  -- each list that is kept is what walks of its goal reach from its value
  pub record IsKept (reaches : Reaches) : Type 0 where
    pub onward : AreReaches Onward reaches.onward
    pub backward : AreReaches Backward reaches.backward

-- a goal from `at` on
abbrev pub IsFrom : List Goal → ℕ → ℕ → Type 0
IsFrom goals at k = (at ≤ k) × (k < length goals)
