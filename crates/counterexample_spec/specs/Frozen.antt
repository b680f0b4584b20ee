-- A data graph in which a chain is frozen: what its conditions ask for of the values of its
-- variables, and nothing else.
use Rattle.std.specs.Prelude.{ℕ, suc, Bool, List, [], ◌∷◌, ◌++◌, codes, if◌then◌else◌, Option, Some, None}
use Rattle.std.specs.List.{flat_map}
use Rattle.std.specs.Fmt.{decimal}
use Rattle.sd_value.specs.declared.Datum.TheVariants.{Text, Node}
use Rattle.sd_value.specs.declared.Value.{Value}
use Rattle.sd_value.specs.declared.Value.TheVariants.{Data}
use Rattle.sd_value.specs.Names.{Name, Label, Word}
use Rattle.rpe.specs.Regex as rpe
use Rattle.rpe.specs.Regex.{Regex}
use Rattle.graph_spec.specs.DataGraph.{DataGraph, node}
use Rattle.graph_spec.specs.Statement.{Statement, a_node, a_member, an_edge}
pub use Rattle.graph_spec.specs.Statement.{with_all, empty_graph, graph_of}
use Rattle.query_spec.specs.Query.{arc_variable, expression, Condition, member, path}
use Rattle.query_spec.specs.Holds.{Assignment, operand_value}
use Rattle.counterexample_spec.specs.Values.{Copy, first_copy, second_copy, Pattern, assigned, values_of}

-- ---- what is stated of values

-- a value that is a node is declared
abbrev pub declared : Value → List Statement
declared (Data (Node n)) = a_node n ∷ []
declared v = []

-- a value that is a node is a member
abbrev pub joined : Name → Value → List Statement
joined collection (Data (Node n)) = a_member collection n ∷ []
joined collection v = []

-- an edge from a value that is a node to one that is no page
abbrev pub edge : Value → Label → Value → List Statement
edge (Data (Node n)) l (Data d) = an_edge n l (Data d) ∷ []
edge u l v = []

-- an edge by a label that is a value
abbrev pub edge_by : Value → Value → Value → List Statement
edge_by u (Data (Text l)) v = edge u l v
edge_by u a v = []

-- ---- paths

-- a word of the expression: the first side of each choice, and what may be repeated once or not
-- at all
abbrev pub word : Bool → Regex → Word
word repeats (rpe.label l) = l ∷ []
word repeats rpe.any = codes "any" ∷ []
word repeats rpe.empty = []
word repeats (rpe.seq r s) = word repeats r ++ word repeats s
word repeats (rpe.alt r s) = word repeats r
word repeats (rpe.star r) = if repeats then word repeats r else []

-- what the names of a second copy's nodes end in
abbrev pub ending : Copy → Name
ending first_copy = []
ending (second_copy shared) = codes "_2"

-- the j-th node within the path of the condition of number k
abbrev pub step : Copy → ℕ → ℕ → Value
step copy k j =
    node (codes "step_" ++ decimal k ++ codes "_" ++ decimal j ++ ending copy)

-- the edges of a word from u to v, over nodes of which the first has number j
abbrev pub along : (ℕ → Value) → ℕ → Value → Word → Value → List Statement
along middle j u [] v = []
along middle j u (l ∷ []) v = edge u l v
along middle j u (l ∷ m ∷ rest) v =
    edge u l (middle j) ++ along middle (suc j) (middle j) (m ∷ rest) v

-- ---- what is stated of a chain

-- of a value, if there is one
abbrev pub of_some : Option Value → (Value → List Statement) → List Statement
of_some None f = []
of_some (Some v) f = f v

module _ (s : Assignment) (copy : Copy) (repeats : Bool) where
  -- what the condition of number k asks for
  abbrev pub asked : ℕ → Condition → List Statement
  asked k (member collection x) = of_some (s x) (joined collection)
  asked k (path t (arc_variable a) u) =
      of_some (operand_value s t)
      (λ from. of_some (operand_value s u) (λ to. of_some (s a) (λ l. edge_by from l to)))
  asked k (path t (expression r) u) =
      of_some (operand_value s t)
      (λ from. of_some (operand_value s u)
      (λ to. along (step copy k) 1 from (word repeats r) to))
  asked k c = []

  -- what these conditions ask for, the first of which has number k
  abbrev pub all_asked : ℕ → List Condition → List Statement
  all_asked k [] = []
  all_asked k (c ∷ cs) = asked k c ++ all_asked (suc k) cs

-- the nodes among the values, and what the conditions ask for
abbrev pub stated : Pattern → List Statement
stated p =
    flat_map declared (values_of p) ++ all_asked (assigned p) p.copy p.repeats 0 p.conditions
