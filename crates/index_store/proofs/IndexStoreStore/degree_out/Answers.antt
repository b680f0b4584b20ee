use Rattle.std.proofs.Common.{ap, length}
use Rattle.edge_queries.specs.Places.{at_start, step_from}
use Rattle.edge_queries.specs.Listed.{lists-out_all, counted}
use Rattle.index_store.proofs.IndexStoreStore.degree_out.Goals as goal

pub returns : goal.returns
returns c =
    counted (at_start c.args.from.now) step_from c.args.self.now.edges _ (ap length c.edges_from.ensures.edges)
    (lists-out_all c.args.self.now c.edges_from.ensures.well_formed c.args.from.now)
