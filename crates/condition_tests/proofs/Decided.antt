-- What a test of an atom tells of all rows that agree with what is known.
use Rattle.std.proofs.Common.{◌≡◌, ℕ, List, subst}
use Rattle.std.specs.Prelude.{◌↔◌, Bool, IsTrue, Option}
use Rattle.sd_value.specs.declared.Value.{Value}
use Rattle.graph_spec.specs.DataGraph.{DataGraph}
use Rattle.condition_tests.specs.declared.literal.Slot.{Slot}
use Rattle.condition_tests.specs.declared.literal.Slot.TheVariants.{Variable, Fixed}
use Rattle.condition_tests.specs.declared.literal.Property.{Property}
use Rattle.condition_tests.specs.declared.literal.Relation.{Relation}
use Rattle.condition_tests.specs.declared.literal.Atom.TheVariants.{One, Two}
use Rattle.condition_tests.specs.Known.{Agrees}
use Rattle.condition_tests.specs.Places.{IsKnown, Decides}
use Rattle.condition_tests.specs.Meaning.{Stands, Has, Relates}

-- what is known at a place stands there in each row that agrees
pub known_stands : (p : Slot) (t : List Value) (s : List (Option Value)) (v : Value) → Agrees t s → IsKnown p s v → Stands p t v
known_stands (Variable k) t s v a h = a.same k v h
known_stands (Fixed w) t s v a h = h

pub same_standing : (p : Slot) (t : List Value) (u v : Value) → Stands p t u → Stands p t v → u ≡ v
same_standing (Variable k) t u v h g = cc
same_standing (Fixed w) t u v h g = cc

module _ (G : DataGraph) (version : ℕ) where
  pub decides_one : (p : Slot) (property : Property) (s : List (Option Value)) (v : Value) (b : Bool) → IsKnown p s v → (IsTrue b ↔ Has G version property v) → Decides G version (One p property) s b
  decides_one p property s v b h says = λ t a. (
    (λ yes. (v, known_stands p t s v a h, says.0 yes)),
    (λ holds. says.1 (subst (λ w. Has G version property w) (same_standing p t holds.0 v holds.1 (known_stands p t s v a h)) holds.2)),
  )

  pub decides_two : (p : Slot) (relation : Relation) (q : Slot) (s : List (Option Value)) (u v : Value) (b : Bool) → IsKnown p s u → IsKnown q s v → (IsTrue b ↔ Relates G version relation u v) → Decides G version (Two p relation q) s b
  decides_two p relation q s u v b hp hq says = λ t a. (
    (λ yes. (u, v, known_stands p t s u a hp, known_stands q t s v a hq, says.0 yes)),
    (λ holds.
        let eu = same_standing p t holds.0 u holds.2 (known_stands p t s u a hp) in
        let ev = same_standing q t holds.1 v holds.3 (known_stands q t s v a hq) in
        says.1 (subst (λ x. Relates G version relation x v) eu (subst (λ y. Relates G version relation holds.0 y) ev holds.4))),
  )
