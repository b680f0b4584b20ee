use Rattle.std.proofs.Common.{ap, ◌∙◌, sym, length}
use Rattle.std.proofs.lemmas.List.{length-map}
use Rattle.edge_queries.specs.Places.{at_label}
use Rattle.edge_queries.specs.Listed.{lists-by_label, counted}
use Rattle.index_store.specs.Indexed.{edge_at}
use Rattle.index_store.proofs.IndexStoreStore.edges_of.Goals as goal

pub returns : goal.returns
returns c =
    let are = c.edges_labelled.ensures.positions in
    counted (at_label c.args.label.now) (λ e. e) _ _ (sym (length-map c.edges_labelled.result.now (edge_at c.args.self.now.edges)) ∙ ap length are.exact)
    (lists-by_label c.args.self.now c.edges_labelled.ensures.well_formed _ are.order.lists c.args.label.now)
