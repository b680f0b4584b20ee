-- The chain that has the members of a collection as its rows.
use Rattle.std.specs.Prelude.{false, [], ◌∷◌}
use Rattle.graph_spec.specs.DataGraph.{Name}
use Rattle.query_spec.specs.declared.Variable.{Variable}
use Rattle.query_spec.specs.Query.{Chain, member}

-- `x`
abbrev pub only_name : Name
only_name = 120 ∷ []

abbrev pub only_variable : Variable
only_variable = record { name = only_name; arc = false }

abbrev pub member_chain : Name → Chain
member_chain collection = record {
  version = 1;
  variables = only_variable ∷ [];
  conditions = member collection only_name ∷ [];
}
