-- The rows of a chain: values for its variables under which all its conditions hold.
use Rattle.std.specs.Prelude.{◌≡◌, ℕ, Bool, List, [], ◌∷◌, length, map, slice_get, All, ⊤, if◌then◌else◌, Option, Some, None}
use Rattle.std.specs.Bool.{MatchBool}
use Rattle.std.specs.List.{AllZip}
use Rattle.std.specs.declared.cmp.Ordering.{Ordering}
use Rattle.std.specs.Cmp.Lexicographic.{slice_cmp}
use Rattle.std.specs.Cmp.{IsTotalOrder}
use Rattle.std.specs.FinMap.{IsAntisymmetric, slice_cmp-IsAntisymmetric}
use Rattle.std.proofs.lemmas.Cmp.{lists_total}
use Rattle.sd_value.specs.declared.Value.{Value}
use Rattle.sd_value.specs.Order.{value_cmp}
use Rattle.sd_value.specs.OrderLaws.{value_cmp-total, value_cmp-exact}
use Rattle.graph_spec.specs.DataGraph.{DataGraph, Name, IsValueOf, IsLabelValueOf}
use Rattle.query_spec.specs.declared.Variable.{Variable}
use Rattle.query_spec.specs.Query.{Chain}
use Rattle.query_spec.specs.Mentions.{same_name}
use Rattle.query_spec.specs.Holds.{Holds}

-- the value that a row gives a variable
abbrev pub value_in : List Variable → List Value → Name → Option Value
value_in [] row x = None
value_in (v ∷ variables) [] x = None
value_in (v ∷ variables) (a ∷ row) x =
    if same_name v.name x then Some a else value_in variables row x

-- which variables stand for labels
abbrev pub arcs_of : List Variable → List Bool
arcs_of variables = map (λ v. v.arc) variables

-- the value of the name in a row is that of the variable of that number
pub record IsNumberOf (variables : List Variable) (name : Name) (i : ℕ) : Type 0 where
  pub same : (row : List Value) → length row ≡ length variables
      → value_in variables row name ≡ slice_get row i

-- a node variable is one of the graph's values, and an arc variable one of its labels
abbrev pub IsInDomain : DataGraph → Variable → Value → Type 0
IsInDomain G v a = MatchBool v.arc (IsLabelValueOf G a) (IsValueOf G a)

-- the row has a value of each variable's domain, and all conditions hold under it
pub record IsRow (G : DataGraph) (c : Chain) (row : List Value) : Type 0 where
  pub in_domain : AllZip (IsInDomain G) c.variables row
  pub conditions_hold : All (λ k. Holds G c.version k (value_in c.variables row)) c.conditions

-- the row has each value that is bound
abbrev pub Agrees : List Value → List (Option Value) → Type 0
Agrees [] [] = ⊤
Agrees (a ∷ row) (None ∷ bound) = Agrees row bound
Agrees (a ∷ row) (Some b ∷ bound) = (a ≡ b) × Agrees row bound
Agrees row bound = ⊥

-- a row of the chain that has the values that are bound
pub record IsAnswer (G : DataGraph) (c : Chain) (bound : List (Option Value))
    (row : List Value) : Type 0 where
  pub is_row : IsRow G c row
  pub agrees : Agrees row bound

-- the chain has such a row
pub record SomeAnswer (G : DataGraph) (c : Chain) (bound : List (Option Value)) : Type 0 where
  pub row : List Value
  pub is_answer : IsAnswer G c bound row

-- value by value, in the variables' order
abbrev pub row_cmp : List Value → List Value → Ordering
row_cmp = slice_cmp value_cmp

-- the order of rows is total
pub row_cmp-total : IsTotalOrder row_cmp
row_cmp-total = lists_total value_cmp-total

-- rows that tie are one row
pub row_cmp-exact : IsAntisymmetric row_cmp
row_cmp-exact = slice_cmp-IsAntisymmetric value_cmp-exact
