use Rattle.std.proofs.Common.{ap, length}
use Rattle.edge_queries.specs.Places.{at_start_label}
use Rattle.edge_queries.specs.Listed.{lists-out, counted}
use Rattle.index_store.proofs.IndexStoreStore.count_out.Goals as goal

pub returns : goal.returns
returns c =
    counted (at_start_label c.args.from.now c.args.label.now) (λ e. e.to) c.args.self.now.edges _ (ap length c.edges_out.ensures.edges)
    (lists-out c.args.self.now c.edges_out.ensures.well_formed c.args.from.now c.args.label.now)
