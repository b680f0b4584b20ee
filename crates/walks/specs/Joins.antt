-- The values that walks of an automaton's words join.
use Rattle.sd_value.specs.declared.Value.{Value}
use Rattle.rpe.specs.Regex.{Word}
use Rattle.graph_spec.specs.DataGraph.{DataGraph}
use Rattle.graph_spec.specs.Walk.{Walk}
use Rattle.automaton.specs.Table.{Table, HasWord}

-- a walk from u to v spells a word of the automaton
abbrev pub Joins : DataGraph → Table → Value → Value → Type 0
Joins G t u v = (w : Word) × HasWord t w × Walk G u w v
