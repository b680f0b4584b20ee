use Rattle.std.proofs.Common.{ap, ◌∙◌, sym, length}
use Rattle.std.proofs.lemmas.List.{length-map}
use Rattle.graph_spec.specs.DataGraph.{node}
use Rattle.edge_queries.specs.Places.{at_end_label}
use Rattle.edge_queries.specs.Listed.{lists-incoming_by, counted}
use Rattle.index_store.specs.Indexed.{edge_at}
use Rattle.index_store.proofs.IndexStoreStore.count_incoming.Goals as goal

pub returns : goal.returns
returns c =
    let are = c.edges_in.ensures.positions in
    counted (at_end_label c.args.to.now c.args.label.now) (λ e. node e.from) _ _ (sym (length-map c.edges_in.result.now (edge_at c.args.self.now.edges)) ∙ ap length are.exact)
    (lists-incoming_by c.args.self.now c.edges_in.ensures.well_formed _ are.order.lists c.args.to.now c.args.label.now)
