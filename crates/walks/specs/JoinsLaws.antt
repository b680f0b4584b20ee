-- The walks of an automaton are those of the expression whose words it has.
use Rattle.std.specs.Prelude.{◌↔◌}
use Rattle.sd_value.specs.declared.Value.{Value}
use Rattle.rpe.specs.Regex.{Regex, Word}
use Rattle.rpe.specs.Language.{InLanguage}
use Rattle.graph_spec.specs.DataGraph.{DataGraph}
use Rattle.graph_spec.specs.Walk.{Walk}
use Rattle.automaton.specs.Table.{Table, HasWord}
use Rattle.walks.specs.Joins.{Joins}

pub joins_of_expression : (G : DataGraph) (t : Table) (r : Regex) (u v : Value)
    → ((w : Word) → HasWord t w ↔ InLanguage r w)
    → Joins G t u v ↔ ((w : Word) × InLanguage r w × Walk G u w v)
joins_of_expression G t r u v same =
    (λ (w, h, walk). (w, (same w).0 h, walk), λ (w, h, walk). (w, (same w).1 h, walk))
