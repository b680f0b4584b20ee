-- Walks from their start onward, and from their end backward.
use Rattle.std.specs.Prelude.{ℕ}
use Rattle.sd_value.specs.declared.Value.{Value}
use Rattle.graph_spec.specs.DataGraph.{DataGraph, Name, HasEdge}
use Rattle.automaton.specs.PositionSet.{Has}
use Rattle.automaton.specs.Table.{Table, row}
use Rattle.walks.specs.declared.direction.Direction.{Direction}
use Rattle.walks.specs.declared.direction.Direction.TheVariants.{Onward, Backward}
use Rattle.walks.specs.Joins.{Joins}

-- an edge with this label leads from u to v, or from v to u where the search goes backward
abbrev pub Leaves : DataGraph → Direction → Value → Name → Value → Type 0
Leaves G Onward u label v = HasEdge G u label v
Leaves G Backward u label v = HasEdge G v label u

-- a word may begin at the position, or end there
abbrev pub Opens : Table → Direction → ℕ → Type 0
Opens t Onward p = Has t.first p
Opens t Backward p = Has t.last p

-- a word may end at the position, or begin there
abbrev pub Closes : Table → Direction → ℕ → Type 0
Closes t Onward p = Has t.last p
Closes t Backward p = Has t.first p

-- q may be right after p, or right before it
abbrev pub IsNext : Table → Direction → ℕ → ℕ → Type 0
IsNext t Onward p q = Has (row t.next p) q
IsNext t Backward p q = Has (row t.next q) p

-- a walk leads from u to v, or from v to u
abbrev pub JoinsBy : DataGraph → Table → Direction → Value → Value → Type 0
JoinsBy G t Onward u v = Joins G t u v
JoinsBy G t Backward u v = Joins G t v u

-- the value at which a walk from the one to the other is begun on this way
abbrev pub origin : Direction → Value → Value → Value
origin Onward start end = start
origin Backward start end = end
