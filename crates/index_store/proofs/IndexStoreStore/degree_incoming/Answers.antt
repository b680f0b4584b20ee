use Rattle.std.proofs.Common.{ap, ◌∙◌, sym, length}
use Rattle.std.proofs.lemmas.List.{length-map}
use Rattle.edge_queries.specs.Places.{at_end, step_to}
use Rattle.edge_queries.specs.Listed.{lists-incoming, counted}
use Rattle.index_store.specs.Indexed.{edge_at}
use Rattle.index_store.proofs.IndexStoreStore.degree_incoming.Goals as goal

pub returns : goal.returns
returns c =
    let are = c.edges_to.ensures.positions in
    counted (at_end c.args.to.now) step_to _ _ (sym (length-map c.edges_to.result.now (edge_at c.args.self.now.edges)) ∙ ap length are.exact)
    (lists-incoming c.args.self.now c.edges_to.ensures.well_formed _ are.order.lists c.args.to.now)
