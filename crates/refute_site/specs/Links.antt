-- What is frozen of links, as they are written.
use Rattle.std.specs.Prelude.{◌≡◌, Bool, true, false, List, ◌++◌, filter}
use Rattle.std.specs.List.{flat_map}
use Rattle.sd_value.specs.Names.{Name, Label}
use Rattle.graph_spec.specs.DataGraph.{DataGraph}
use Rattle.site_spec.specs.Site.{Scope}
use Rattle.constraint_spec.specs.Placed.{PlacedLink}
use Rattle.counterexample_spec.specs.Candidates.{either_way, link_graph, two_links_graph, two_links_graphs, mention_graphs, AreCarriers}

-- the link frozen, once or twice
abbrev pub frozen_link : Bool → Label → PlacedLink → List DataGraph
frozen_link true l k = either_way (two_links_graph l k)
frozen_link false l k = either_way (link_graph l k)

-- those of the links that pass, frozen so
abbrev pub frozen_links : (PlacedLink → Bool) → Bool → Label → List PlacedLink → List DataGraph
frozen_links may twice l links = flat_map (frozen_link twice l) (filter may links)

-- the graphs of the links of f that may carry l, of which `frozen` are made
abbrev pub AreLinkGraphs : Scope → Name → Label → (List PlacedLink → List DataGraph)
    → List DataGraph → Type 0
AreLinkGraphs q f l frozen graphs =
    (links : List PlacedLink) × AreCarriers q f l links × (graphs ≡ frozen links)

-- the graphs of which a constraint of exactly one link asks
abbrev pub one_graphs : Scope → Name → Label → List PlacedLink → List DataGraph
one_graphs q f l links = mention_graphs q f ++ two_links_graphs l links
