-- What a text makes of the data of a run whose data may be the site of a first query.
use Rattle.std.specs.Prelude.{ℕ, List, Ok, Option, Some, None}
use Rattle.graph_spec.specs.DataGraph.{DataGraph}
use Rattle.query_spec.specs.Query as plain
use Rattle.site_spec.specs.Site.{Scope, scope_of}
use Rattle.composed_data.specs.SiteData.{DecidesSiteData}
use Rattle.data_texts.specs.Texts.{no_data, States, Reader}

-- The text is an accepted data text, and this is the graph of the first query's site over the data that it states alone,
-- which is within the program's limits.
abbrev pub StatesOver : Scope → List ℕ → DataGraph → Type 0
StatesOver first text whole =
    (raw : DataGraph) × States text raw × DecidesSiteData no_data.limits raw first (Ok whole)

-- The text is accepted, and makes these data: those that it states, or that graph, where there is a first query.
abbrev pub MakesData : Option plain.Query → List ℕ → DataGraph → Type 0
MakesData None = States
MakesData (Some first) = StatesOver (scope_of first)

-- for each first query, and for none, a reader: which texts are accepted, exactly, and the data that each of them makes
abbrev pub Readers : Type 0
Readers = (first : Option plain.Query) → Reader (MakesData first)
