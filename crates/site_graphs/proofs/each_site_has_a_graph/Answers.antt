use Rattle.site_graphs.proofs.Graphs.{site_graph_of}
use Rattle.site_graphs.proofs.each_site_has_a_graph.Goals as goal

pub returns : goal.returns
returns c = site_graph_of
