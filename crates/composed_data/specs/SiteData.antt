-- What a first query makes of data: its site, seen as a data graph.
use Rattle.std.specs.Prelude.{◌≡◌, ◌⊎◌, Result, Err}
use Rattle.graph_spec.specs.DataGraph.{DataGraph}
use Rattle.site_spec.specs.Site.{Scope}
use Rattle.weight_spec.specs.Site.{site_of}
use Rattle.sd_graph.specs.declared.Limits.{Limits}
use Rattle.sd_graph.specs.declared.GraphRefusal.{GraphRefusal}
use Rattle.sd_graph.specs.declared.GraphRefusal.TheVariants.{NoMemory}
use Rattle.compose_spec.specs.Composed.{IsSiteGraph}
use Rattle.compose.specs.Listed.{AnswersWithin}

-- the graph of the query's site over the data
abbrev pub IsSiteData : DataGraph → Scope → DataGraph → Type 0
IsSiteData raw query whole = IsSiteGraph (site_of raw query) raw.nodes whole

-- there is that graph, and the answer says whether it is within the limits
pub record DecidesSiteData (limits : Limits) (raw : DataGraph) (query : Scope)
    (end : Result DataGraph GraphRefusal) : Type 0 where
  pub whole : DataGraph
  pub is_whole : IsSiteData raw query whole
  pub answers : AnswersWithin limits whole end

-- How making it ends: with that graph, where it is within the limits, or with the reason why it isn't, unless it is out
-- of memory.
abbrev pub SiteDataEnds : Limits → DataGraph → Scope → Result DataGraph GraphRefusal → Type 0
SiteDataEnds limits raw query end = DecidesSiteData limits raw query end ⊎ (end ≡ Err NoMemory)
