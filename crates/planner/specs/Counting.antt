-- The counts of the labels and of the collections by which conditions are priced.
use Rattle.std.specs.Prelude.{◌≡◌, ◌⊎◌, ℕ, List, [], ◌∷◌, ◌++◌, Option, None, Some, Contains}
use Rattle.sd_value.specs.Order.{value_cmp}
use Rattle.rpe.specs.Regex.{label}
use Rattle.graph_spec.specs.DataGraph.{DataGraph, Name}
use Rattle.graph_spec.specs.Orders.{edge_cmp}
use Rattle.graph_spec.specs.Steps.{IsCountOf, IsLabelled, IsMemberValue}
use Rattle.query_spec.specs.Query.{expression, Condition, member, path}
use Rattle.plan_spec.specs.declared.Counted.{Counted}

-- the label by whose edges a condition is priced
abbrev pub priced_label : Condition → Option Name
priced_label (path t (expression (label a)) u) = Some a
priced_label k = None

-- the collection by whose members a condition is priced
abbrev pub priced_collection : Condition → Option Name
priced_collection (member collection x) = Some collection
priced_collection k = None

-- what one more condition adds to a list of counts: the name by which it is priced, with a right count
abbrev pub AddsCount : (Condition → Option Name) → (Name → ℕ → Type 0) → Condition → List Counted
    → List Counted → Type 0
AddsCount priced IsRight k before after =
    ((priced k ≡ None) × (after ≡ before))
    ⊎ ((name : Name) × (n : ℕ) × (priced k ≡ Some name) × IsRight name n
    × (after ≡ before ++ record { name = name; count = n } ∷ []))

-- n edges have the label
abbrev pub LabelCount : DataGraph → Name → ℕ → Type 0
LabelCount G a n = IsCountOf edge_cmp (IsLabelled G a) n

-- n values are in the collection
abbrev pub MemberCount : DataGraph → Name → ℕ → Type 0
MemberCount G collection n = IsCountOf value_cmp (IsMemberValue G collection) n

-- all counts are right, and each condition's name is among them
pub record AreCountsOf (priced : Condition → Option Name) (IsRight : Name → ℕ → Type 0)
    (conditions : List Condition) (counted : List Counted) : Type 0 where
  pub right : (e : Counted) → Contains counted e → IsRight e.name e.count
  pub listed : (k : Condition) (name : Name) → Contains conditions k → priced k ≡ Some name
      → (e : Counted) × Contains counted e × (e.name ≡ name)
