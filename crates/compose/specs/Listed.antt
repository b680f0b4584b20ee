-- What is known of a site whose graph is asked for, and what an answer says.
use Rattle.std.specs.Prelude.{◌≡◌, ◌⊎◌, ◌≤◌, ◌<◌, ◌+◌, List, Contains, length, Result, Ok, Err}
use Rattle.sd_value.specs.Names.{Name, Label}
use Rattle.sd_value.specs.declared.Datum.TheVariants.{Node}
use Rattle.sd_value.specs.declared.Term.{Term}
use Rattle.sd_value.specs.declared.Value.{Value}
use Rattle.sd_value.specs.declared.Value.TheVariants.{Data, Page}
use Rattle.graph_spec.specs.DataGraph.{DataGraph}
use Rattle.graph_spec.specs.declared.Edge.{Edge}
use Rattle.graph_spec.specs.declared.Member.{Member}
use Rattle.page_spec.specs.Site.{Site}
use Rattle.sd_graph.specs.declared.Limits.{Limits}
use Rattle.sd_graph.specs.declared.GraphRefusal.{GraphRefusal}
use Rattle.sd_graph.specs.declared.GraphRefusal.TheVariants.{TooManyNodes, TooManyEdges, NoMemory}

-- The terms are those of the site, the labels have those of all links from pages, and all that is
-- collected is a member in the graph or collected under one of the names. The site's edges from
-- nodes are the graph's, and the graph's members are collected. Each page or node at an end of an
-- edge of the site, and each that is collected, is a page of the site or declared in the graph.
pub record IsListed (site : Site) (graph : DataGraph) (terms : List Term) (labels : List Label)
    (collections : List Name) : Type 0 where
  pub sound : (t : Term) → Contains terms t → site.has t
  pub complete : (t : Term) → site.has t → Contains terms t
  pub starts : (t : Term) (label : Label) (v : Value) → site.edge (Page t) label v → site.has t
  pub labelled : (t : Term) (label : Label) (v : Value) → site.edge (Page t) label v
      → Contains labels label
  pub edges : (e : Edge) → Contains graph.edges e → site.edge (Data (Node e.from)) e.label e.to
  pub from_nodes : (n : Name) (label : Label) (v : Value) → site.edge (Data (Node n)) label v
      → Contains graph.edges (record { from = n; label = label; to = v })
  pub members : (m : Member) → Contains graph.members m
      → site.collected m.collection (Data (Node m.node))
  pub collected : (c : Name) (v : Value) → site.collected c v
      → Contains collections c
      ⊎ ((n : Name) × Contains graph.members (record { collection = c; node = n })
      × (v ≡ Data (Node n)))
  pub ends_in_site : (u : Value) (label : Label) (t : Term) → site.edge u label (Page t)
      → site.has t
  pub ends_declared : (u : Value) (label : Label) (n : Name) → site.edge u label (Data (Node n))
      → Contains graph.nodes n
  pub collected_in_site : (c : Name) (t : Term) → site.collected c (Page t) → site.has t
  pub collected_declared : (c : Name) (n : Name) → site.collected c (Data (Node n))
      → Contains graph.nodes n

-- an answer where `whole` is the graph that is asked for
abbrev pub AnswersWithin : Limits → DataGraph → Result DataGraph GraphRefusal → Type 0
AnswersWithin limits whole (Ok graph) =
    (graph ≡ whole) × (length whole.nodes ≤ limits.nodes)
    × (length whole.edges + length whole.members ≤ limits.edges)
AnswersWithin limits whole (Err TooManyNodes) = limits.nodes < length whole.nodes
AnswersWithin limits whole (Err TooManyEdges) =
    (length whole.nodes ≤ limits.nodes)
    × (limits.edges < length whole.edges + length whole.members)
AnswersWithin limits whole (Err NoMemory) = Unit {0}
