-- The site of a query over a data graph can be listed.
use Rattle.graph_spec.specs.DataGraph.{DataGraph}
use Rattle.graph_spec.specs.Orders.{member_cmp, member_cmp-total, member_cmp-exact}
use Rattle.site_spec.specs.Site.{Scope}
use Rattle.weight_spec.specs.Site.{site_of}
use Rattle.site_graphs.proofs.Decide.{dec_in}
use Rattle.site_graphs.proofs.Sites.{all_site_terms, all_edges, all_collected}
use Rattle.outcome_laws.proofs.Listing.{IsListed}

pub site_listed : (graph : DataGraph) (query : Scope) → IsListed (site_of graph query)
site_listed graph query = record {
  terms = all_site_terms graph query;
  edges = all_edges graph query;
  collected = all_collected graph query;
  member = λ c n. dec_in member_cmp member_cmp-total member_cmp-exact graph.members
      (record { collection = c; node = n });
}
