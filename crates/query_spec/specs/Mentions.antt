-- The variables that conditions mention, and what makes a chain well made.
use Rattle.std.specs.Prelude.{◌≡◌, ◌≢◌, ◌⊎◌, ℕ, ◌<◌, ◌≤◌, ◌^◌, Bool, false, not, IsTrue, List, []}
use Rattle.std.specs.Prelude.{◌∷◌, ◌++◌, length, map, filter, Contains, All, AllPairs, ⊤}
use Rattle.std.specs.List.{flat_map, list_any}
use Rattle.std.specs.Ordering.{eq_by_cmp}
use Rattle.sd_value.specs.Order.{bytes_cmp}
use Rattle.rpe.specs.Language.{positions}
use Rattle.graph_spec.specs.DataGraph.{Name}
use Rattle.query_spec.specs.declared.Variable.{Variable}
use Rattle.query_spec.specs.Query.{Operand, variable, constant, PathStep, arc_variable, expression}
use Rattle.query_spec.specs.Query.{Condition, member, path, compare, one_of, kind, negation, Chain}

-- whether two names are one: the order of bytes ties only equal bytes
abbrev pub same_name : Name → Name → Bool
same_name = eq_by_cmp bytes_cmp

-- the variable of an operand, if it is one
abbrev pub operand_names : Operand → List Name
operand_names (variable x) = x ∷ []
operand_names (constant v) = []

-- the variable between arrows, if there is one
abbrev pub step_names : PathStep → List Name
step_names (arc_variable x) = x ∷ []
step_names (expression r) = []

-- every variable of a condition, from left to right
abbrev pub names : Condition → List Name
names (member c x) = x ∷ []
names (path t s u) = operand_names t ++ step_names s ++ operand_names u
names (compare t o u) = operand_names t ++ operand_names u
names (one_of t vs) = operand_names t
names (kind k x) = x ∷ []
names (negation c) = names c

-- those between the arrows of a path
abbrev pub arc_names : Condition → List Name
arc_names (path t s u) = step_names s
arc_names (negation c) = arc_names c
arc_names c = []

-- those that have to be node variables: a path's ends, and a collection's variable
abbrev pub node_names : Condition → List Name
node_names (member c x) = x ∷ []
node_names (path t s u) = operand_names t ++ operand_names u
node_names (negation c) = node_names c
node_names c = []

-- each name once, where it first is
abbrev pub first_mentions : List Name → List Name
first_mentions [] = []
first_mentions (x ∷ xs) = x ∷ filter (λ y. not (same_name x y)) (first_mentions xs)

-- the variables of a block's conditions, by first mention
abbrev pub variables_of : List Condition → List Variable
variables_of conditions =
    map (λ x. record { name = x; arc = list_any (same_name x) (flat_map arc_names conditions) })
    (first_mentions (flat_map names conditions))

-- the chain of some conditions
abbrev pub chain_of : ℕ → List Condition → Chain
chain_of version conditions = record {
  version = version;
  variables = variables_of conditions;
  conditions = conditions;
}

-- the operand is a constant, or one of these variables
abbrev pub IsDeclared : List Variable → Operand → Type 0
IsDeclared variables (variable x) = Contains (map (λ v. v.name) variables) x
IsDeclared variables (constant v) = Unit {0}

-- a negation holds no negation
abbrev pub IsFlat : Condition → Type 0
IsFlat (negation (negation c)) = ⊥
IsFlat c = ⊤

-- how many positions the expression of a condition has
abbrev pub condition_positions : Condition → ℕ
condition_positions (path t (expression r) u) = positions r
condition_positions (negation c) = condition_positions c
condition_positions c = 0

-- the versions of the language
abbrev pub IsVersion : ℕ → Type 0
IsVersion version = (version ≡ 1) ⊎ (version ≡ 2) ⊎ (version ≡ 3)

-- what is asked of a chain: its variables are those of its conditions, each of the right kind, and
-- its sizes are within their limits
pub record IsWellMade (c : Chain) : Type 0 where
  pub known_version : IsVersion c.version
  pub distinct : AllPairs (λ v w. v.name ≢ w.name) c.variables
  pub mentioned : (v : Variable) → Contains c.variables v
      → Contains (flat_map names c.conditions) v.name
  pub declared : (x : Name) → Contains (flat_map names c.conditions) x
      → Contains (map (λ v. v.name) c.variables) x
  pub arcs : (v : Variable) → Contains c.variables v
      → Contains (flat_map arc_names c.conditions) v.name → IsTrue v.arc
  pub nodes : (v : Variable) → Contains c.variables v
      → Contains (flat_map node_names c.conditions) v.name → v.arc ≡ false
  pub flat : All IsFlat c.conditions
  pub small : All (λ k. condition_positions k ≤ 256) c.conditions
  pub few_variables : length c.variables < 2 ^ 32
  pub few_conditions : length c.conditions < 2 ^ 32
