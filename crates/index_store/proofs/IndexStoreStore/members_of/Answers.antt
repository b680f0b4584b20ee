use Rattle.std.proofs.Common.{ap, length}
use Rattle.graph_spec.specs.DataGraph.{node}
use Rattle.edge_queries.specs.Places.{at_collection}
use Rattle.edge_queries.specs.Listed.{lists-members, counted}
use Rattle.index_store.proofs.IndexStoreStore.members_of.Goals as goal

pub returns : goal.returns
returns c =
    counted (at_collection c.args.collection.now) (λ m. node m.node) c.args.self.now.members _ (ap length c.members_in.ensures.members)
    (lists-members c.args.self.now c.members_in.ensures.well_formed c.args.collection.now)
