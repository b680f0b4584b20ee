-- Which candidates are tried.
use Rattle.graph_spec.specs.DataGraph.{DataGraph}
use Rattle.site_spec.specs.Site.{Scope}
use Rattle.sd_graph.specs.ProgramLimits.{IsWithinProgram}
use Rattle.counterexample_spec.specs.Trial.{IsSmall}

-- The graph is within the program's limits, and the chains of the query have no more rows over it than
-- the budget of a trial is.
pub record IsTried (q : Scope) (G : DataGraph) : Type 0 where
  pub within : IsWithinProgram G
  pub small : IsSmall q G
