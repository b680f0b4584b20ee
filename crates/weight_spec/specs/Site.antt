-- The site of a query over a data graph, as pages see it.
use Rattle.graph_spec.specs.DataGraph.{DataGraph, HasMember}
use Rattle.page_spec.specs.Site.{Site}
use Rattle.site_spec.specs.Site.{Scope, InSite, SiteEdge, Collected}

-- its terms, its edges and its collected values by the query, and the data graph's members
abbrev pub site_of : DataGraph → Scope → Site
site_of graph query = record {
  has = InSite graph query;
  edge = SiteEdge graph query;
  collected = Collected graph query;
  member = HasMember graph;
}
